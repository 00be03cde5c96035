-- The schema of the workload keeps the rules, and its text means it.
use Rattle.std.proofs.Common.{◌≡◌, ◌∷◌, [], refl, arith}
use Rattle.std.specs.Fmt.{digits}
use Rattle.gx_schema.specs.Printing.{schema_text}
use Rattle.gx_schema.specs.Rules.{IsFile, IsLink, IsSchema}
use Rattle.gx_schema.specs.Grammar.{IsSchemaText}
use Rattle.gx_schema.specs.Reading.{size_at, kind_at, field_behind, fields_at, file_behind, link_behind, item_at, items_behind, schema_of}
use Rattle.gx_schema.proofs.SchemaLaws.{read_found}
use Rattle.gx_schema.proofs.WellFormedLaws.{well_formed}
use Rattle.gx_schema.specs.WellFormed.{IsWellFormed}
use Rattle.gx_tokens.specs.Numbers.{number_value}
use Rattle.std.specs.Prelude.{Ok}
use Rattle.gx_work.specs.Schema.{schema_lines, work_schema, dept, emp, works}

pub lines_canonical : schema_lines ≡ schema_text work_schema
unfolding digits
lines_canonical = refl

dept_rules : IsFile [] dept
dept_rules = record {
  name = record {
    word = record {
      starts = refl;
      each = (refl, (refl, (refl, (refl, tt))));
      short = omega arith;
    };
    letter = refl;
  };
  new = refl;
  room = omega arith;
  some = omega arith;
  fields = (
    record {
      name = record {
        word = record {
          starts = refl;
          each = (refl, (refl, (refl, tt)));
          short = omega arith;
        };
        letter = refl;
      };
      new = refl;
      room = omega arith;
      kind = tt;
    },
    (
      record {
        name = record {
          word = record {
            starts = refl;
            each = (refl, (refl, (refl, (refl, (refl, tt)))));
            short = omega arith;
          };
          letter = refl;
        };
        new = refl;
        room = omega arith;
        kind = (omega arith, omega arith, λ _. omega arith);
      },
      tt,
    ),
  );
}

emp_rules : IsFile (dept ∷ []) emp
emp_rules = record {
  name = record {
    word = record {
      starts = refl;
      each = (refl, (refl, (refl, tt)));
      short = omega arith;
    };
    letter = refl;
  };
  new = refl;
  room = omega arith;
  some = omega arith;
  fields = (
    record {
      name = record {
        word = record {
          starts = refl;
          each = (refl, (refl, (refl, tt)));
          short = omega arith;
        };
        letter = refl;
      };
      new = refl;
      room = omega arith;
      kind = tt;
    },
    (
      record {
        name = record {
          word = record {
            starts = refl;
            each = (refl, (refl, (refl, (refl, tt))));
            short = omega arith;
          };
          letter = refl;
        };
        new = refl;
        room = omega arith;
        kind = (omega arith, omega arith, λ _. omega arith);
      },
      (
        record {
          name = record {
            word = record {
              starts = refl;
              each = (refl, (refl, (refl, tt)));
              short = omega arith;
            };
            letter = refl;
          };
          new = refl;
          room = omega arith;
          kind = tt;
        },
        (
          record {
            name = record {
              word = record {
                starts = refl;
                each = (refl, (refl, (refl, (refl, tt))));
                short = omega arith;
              };
              letter = refl;
            };
            new = refl;
            room = omega arith;
            kind = (omega arith, omega arith, λ _. omega arith);
          },
          tt,
        ),
      ),
    ),
  );
}

works_rules : IsLink (dept ∷ emp ∷ []) [] works
works_rules = record {
  name = record {
    word = record {
      starts = refl;
      each = (refl, (refl, (refl, (refl, (refl, tt)))));
      short = omega arith;
    };
    letter = refl;
  };
  no_file = refl;
  new = refl;
  room = omega arith;
  owner = omega arith;
  member = omega arith;
}

pub work_rules : IsSchema work_schema
work_rules = record {
  some = omega arith;
  files = (dept_rules, (emp_rules, tt));
  links = (works_rules, tt);
}

read_again : schema_of schema_lines ≡ Ok work_schema
unfolding size_at kind_at field_behind fields_at file_behind link_behind item_at items_behind
    number_value
read_again = refl

-- the text means the schema
pub schema_means : IsSchemaText schema_lines work_schema
schema_means = read_found schema_lines work_schema read_again

pub work_well_formed : IsWellFormed work_schema
work_well_formed = well_formed work_schema work_rules
