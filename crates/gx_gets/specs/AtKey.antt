-- The record whose key is inside a span.
use Rattle.std.specs.Prelude.{◌≡◌, ℕ, ◌≤◌, ◌^◌, true, List, length, Option, Some, None}
use Rattle.gx_values.specs.declared.keys.Span.{Span}
use Rattle.gx_values.specs.declared.records.Rec.{Rec}
use Rattle.gx_values.specs.Keys.{key_of, is_inside}
use Rattle.gx_mapping.specs.Rule.{In}
use Rattle.gx_divide.specs.Pieces.{pieces}
use Rattle.gx_divide.specs.Rules.{bytes_in}

-- of the records this one alone has its key inside the span
pub record IsOneInside (span : Span) (R : List Rec) (r : Rec) : Type 0 where
  pub among : In r R
  pub inside : is_inside span.lo span.hi (key_of r.key) ≡ true
  pub one : (q : Rec) → In q R → is_inside span.lo span.hi (key_of q.key) ≡ true → q ≡ r

abbrev pub NoneInside : Span → List Rec → Type 0
NoneInside span R = (q : Rec) → In q R → is_inside span.lo span.hi (key_of q.key) ≡ true → ⊥

-- no more pieces than numbers of keys can tell apart
abbrev pub AreFew : Option ℕ → Rec → Type 0
AreFew None q = Unit {0}
AreFew (Some size) q = length (pieces size (bytes_in q.fields)) ≤ 2 ^ 63
