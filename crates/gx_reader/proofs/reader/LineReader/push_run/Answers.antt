use Rattle.std.proofs.Common.{rules, arith}
use Rattle.gx_reader.specs.Reader.{begun}
use Rattle.gx_reader.proofs.ReaderLemmas.{run_fed, run_clean}
use Rattle.gx_reader.proofs.reader.LineReader.push_run.Goals as goal

pub invariant_of-self : goal.invariant_of-self
invariant_of-self c =
    let r = c.args.self.now in
    record {
      few = omega (arith, c.min-count.ensures, c.min.ensures, c.begun_len-len.ensures.within);
      clean = run_clean r.line c.copy_from_slice.new.self c.args.run.now c.begun_len-len.result _
          c.min-count.result (begun r) c.begun_len-len.ensures.begun (search rules)
          c.copy_from_slice.ensures.after
          (omega (arith, c.min-count.ensures, c.min.ensures)) r.clean c.requires.clean;
    }

pub returns-clause-fed : goal.returns-clause-fed
returns-clause-fed c rest =
    let r = c.args.self.now in
    run_fed r.line c.copy_from_slice.new.self c.args.run.now c.begun_len-len.result _
    c.min-count.result (begun r) c.begun_len-len.ensures.begun (search rules)
    c.copy_from_slice.ensures.after (omega (arith, c.min-count.ensures, c.min.ensures)) r.left rest
    (omega (arith, c.min-count.ensures))
