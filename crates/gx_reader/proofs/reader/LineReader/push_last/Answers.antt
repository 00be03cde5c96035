use Rattle.std.proofs.Common.{rules, length}
use Rattle.gx_reader.specs.Reader.{begun}
use Rattle.gx_reader.proofs.ReaderLemmas.{pushed_past, pushed_line, pushed_long, long_limit}
use Rattle.gx_reader.proofs.reader.LineReader.push_last.Goals as goal

pub returns-then-self-eq0-clause-fed : goal.returns-then-self-eq0-clause-fed
returns-then-self-eq0-clause-fed c rest =
    let r = c.args.self.now in
    pushed_past r.line c.begun_len-len.result r.left (begun r) c.begun_len-len.ensures.begun
    c.begun_len-len.ensures.within r.clean c.args.byte rest c.if-self-eq0.true

pub returns-then-byte-eq10-clause-fed : goal.returns-then-byte-eq10-clause-fed
returns-then-byte-eq10-clause-fed c rest =
    let r = c.args.self.now in
    pushed_line r.line c.begun_len-len.result r.left (begun r) c.begun_len-len.ensures.begun
    c.begun_len-len.ensures.within r.clean c.args.byte c.line_len-self.result rest
    c.if-byte-eq10.true c.if-self-eq0.false (search rules) c.line_len-self.ensures.value

pub returns-clause-fed : goal.returns-clause-fed
returns-clause-fed c rest =
    let r = c.args.self.now in
    pushed_long r.line c.begun_len-len.result r.left (begun r) c.begun_len-len.ensures.begun
    c.begun_len-len.ensures.within r.clean c.args.byte rest c.if-byte-eq10.false
    c.if-self-eq0.false c.requires.last

pub returns-clause-limit : goal.returns-clause-limit
returns-clause-limit c =
    let r = c.args.self.now in
    long_limit c.args.byte r.left (length (begun r)) c.if-byte-eq10.false c.if-self-eq0.false
    c.requires.last
