-- The schema of the workload.
use Rattle.std.specs.Prelude.{ℕ, List, [], ◌∷◌, ◌++◌, codes}
use Rattle.gx_values.specs.declared.values.Kind.TheVariants as kind
use Rattle.gx_schema.specs.declared.schema.Schema.{Schema}
use Rattle.gx_schema.specs.declared.schema.FileDef.{FileDef}
use Rattle.gx_schema.specs.declared.schema.LinkDef.{LinkDef}

-- the three lines of its text
abbrev pub schema_lines : List ℕ
schema_lines =
    codes "file dept (dno int, dname text 12)\n"
    ++ codes "file emp (eno int, name text 24, pay int, room text 8)\n"
    ++ codes "link works (dept, emp)\n"

-- file 0: departments, by their numbers
abbrev pub dept : FileDef
dept = record {
  name = codes "dept";
  fields =
      record { name = codes "dno"; kind = kind.Int }
      ∷ record { name = codes "dname"; kind = kind.Text 12 } ∷ [];
}

-- file 1: employees, by their numbers; the pay is field 2
abbrev pub emp : FileDef
emp = record {
  name = codes "emp";
  fields =
      record { name = codes "eno"; kind = kind.Int }
      ∷ record { name = codes "name"; kind = kind.Text 24 }
      ∷ record { name = codes "pay"; kind = kind.Int }
      ∷ record { name = codes "room"; kind = kind.Text 8 } ∷ [];
}

-- link 0: which department an employee works for
abbrev pub works : LinkDef
works = record { name = codes "works"; owner = 0; member = 1 }

abbrev pub work_schema : Schema
work_schema = record { files = dept ∷ emp ∷ []; links = works ∷ [] }
