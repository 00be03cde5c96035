use Rattle.std.proofs.Common.{rules}
use Rattle.gx_reader.specs.Reader.{begun}
use Rattle.gx_reader.proofs.ReaderLemmas.{finished_line, finished_none}
use Rattle.gx_reader.proofs.reader.LineReader.finish.Goals as goal

pub returns-then-len-eq0-clause-finished : goal.returns-then-len-eq0-clause-finished
returns-then-len-eq0-clause-finished c =
    let r = c.args.self.now in
    finished_none r.line c.begun_len-len.result r.left (begun r) c.begun_len-len.ensures.begun
    c.begun_len-len.ensures.within r.clean c.if-len-eq0.true

pub returns-clause-finished : goal.returns-clause-finished
returns-clause-finished c =
    let r = c.args.self.now in
    finished_line r.line c.begun_len-len.result r.left (begun r) c.begun_len-len.ensures.begun
    c.begun_len-len.ensures.within r.clean c.if-len-eq0.false (search rules)
