-- Words are refused for a reason, or their texts are accepted.
use Rattle.std.proofs.Common.{ℕ, List, inl, inr}
use Rattle.gx_device.specs.Content.{Texts}
use Rattle.gx_requests.proofs.DecidedLemmas.{AreDecided, decided as decided_texts}
use Rattle.gx_top.specs.Laws.{AreRefusedOrGiven}

given : (words : List (List ℕ)) (texts : Texts) → AreDecided words texts
    → AreRefusedOrGiven words texts
given words texts (inl x) = inl x
given words texts (inr x) =
    inr (x.0, record { schema = x.1; definitions = x.2; typing = x.3 }, x.4)

pub decided : (words : List (List ℕ)) (texts : Texts) → AreRefusedOrGiven words texts
decided words texts = given words texts (decided_texts words texts)
