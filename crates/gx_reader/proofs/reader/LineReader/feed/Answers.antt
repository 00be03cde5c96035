use Rattle.std.proofs.Common.{rules, ◌++◌, ◌∷◌, ◌+◌, drop, get_or}
use Rattle.gx_reader.proofs.ReaderLemmas.{fed_through, next_byte, piece_fed, limit_behind}
use Rattle.gx_reader.proofs.reader.LineReader.feed.Goals as goal

pub returns-clause-fed : goal.returns-clause-fed
returns-clause-fed c rest =
    let piece = c.args.piece.now in
    let taken = c.push_run-taken.result in
    fed_through c.push_last.result c.args.self.now c.push_run-taken.new.self c.push_last.new.self
    (piece ++ rest) (get_or piece taken 0 ∷ (drop (taken + 1) piece ++ rest))
    (drop (taken + 1) piece ++ rest)
    (next_byte c.args.self.now c.push_run-taken.new.self piece rest taken (search rules)
    (piece_fed c.args.self.now c.push_run-taken.new.self piece rest c.run_len-run.result taken
    (search rules) c.push_run-taken.ensures.fed))
    (c.push_last.ensures.fed (drop (taken + 1) piece ++ rest))

pub returns-clause-limit : goal.returns-clause-limit
returns-clause-limit c =
    limit_behind c.push_last.result c.args.self.now c.push_run-taken.new.self
    c.push_run-taken.result c.push_run-taken.ensures.len c.push_run-taken.ensures.left
    c.push_last.ensures.limit
