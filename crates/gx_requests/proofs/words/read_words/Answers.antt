use Rattle.gx_requests.specs.Words.{texts_of}
use Rattle.gx_requests.proofs.WordLemmas.{five_words, no_five}
use Rattle.gx_requests.proofs.words.read_words.Goals as goal

pub returns-in-len5-clause-none : goal.returns-in-len5-clause-none
returns-in-len5-clause-none c = λ none a schema equation counted is.
    no_five (texts_of c.args.words.now) c.as_str-in-len5.result.now c.as_str-in-len5-2.result.now
    c.as_str-in-len5-3.result.now c.as_str-in-len5-4.result.now c.as_str-in-len5-5.result.now
    (five_words c.args.words.now c.word-item-then-words-lt6.result c.first-item.result
    c.second-item.result
    c.third-item.result c.fourth-item.result _ _ _ _ _ c.in-len5.len_at_least c.in-len5.len_below
    c.word-item-then-words-lt6.is c.first-item.is c.second-item.is c.third-item.is c.fourth-item.is
    c.as_str-in-len5.ensures.value c.as_str-in-len5-2.ensures.value c.as_str-in-len5-3.ensures.value
    c.as_str-in-len5-4.ensures.value c.as_str-in-len5-5.ensures.value)
    (c.request_of_counts.ensures.none none) a schema equation counted is
