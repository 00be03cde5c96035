use Rattle.std.proofs.Common.{◌≡◌, ◌+◌, ◌++◌, length, ap, ◌∙◌, arith, length-append}
use Rattle.gx_slots.proofs.EntryLemmas.{none_short, lengths_written, entry_split}
use Rattle.gx_slots.proofs.format.split_entry.Goals as goal

pub returns-in_err-key_len : goal.returns-in_err-key_len
returns-in_err-key_len c =
    rw c.from_residual.ensures (none_short c.args.bytes.now c.in_err-key_len.ensures)

pub returns-then-key_len-gt-MAX_KEY_LEN : goal.returns-then-key_len-gt-MAX_KEY_LEN
returns-then-key_len-gt-MAX_KEY_LEN c = λ entry rest fit begins.
    let read = c.in_ok-key_len.ensures in
    let own = lengths_written entry rest c.args.bytes.now c.in_ok-key_len.rest.now
    c.in_ok-key_len.key_len c.in_ok-key_len.body_len read.2 read.0 read.1 fit begins in
    let behind : length c.in_ok-key_len.rest.now ≡ length entry.key
    + (length entry.body + length rest) =
    ap length own.2 ∙ length-append entry.key (entry.body ++ rest)
    ∙ ap (λ n. length entry.key + n) (length-append entry.body rest) in
    let either = c.then-key_len-gt-MAX_KEY_LEN.either in
    omega (arith, either)

pub returns : goal.returns
returns c =
    let read = c.in_ok-key_len.ensures in
    entry_split c.args.bytes.now c.in_ok-key_len.rest.now _ _ _ _ c.in_ok-key_len.key_len
    c.in_ok-key_len.body_len read.2 (omega arith) (omega arith) (omega arith)
    c.split_at.ensures.front c.split_at.ensures.back c.split_at-2.ensures.front
    c.split_at-2.ensures.back
