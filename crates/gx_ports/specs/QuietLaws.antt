-- What is quiet for one relation of blocks is quiet for a weaker one.
use Rattle.std.specs.Prelude.{ℕ, List}
use Rattle.std.proofs.lemmas.List.Elements.{All-weaker}
use Rattle.gx_device.specs.Content.{Content}
use Rattle.gx_device.specs.Crash.{Image, EachImage}
use Rattle.gx_device.specs.Quiet.{IsQuiet, QuietSince}

pub quiet_weaker : (a b : List (List ℕ) → Type 0) → ((blocks : List (List ℕ)) → a blocks → b blocks)
    → (start now : Content) → QuietSince a start now → QuietSince b start now
quiet_weaker a b weaker start now quiet = record {
  since = quiet.since;
  past = quiet.past;
  each = All-weaker (EachImage (IsQuiet a start.now now.now.said))
      (EachImage (IsQuiet b start.now now.now.said))
      (λ m leaves image is. turn image (leaves image is)) quiet.since quiet.each;
  last = λ image is. turn image (quiet.last image is);
  begun = quiet.begun;
}
  where
    turn : (image : Image) → IsQuiet a start.now now.now.said image
        → IsQuiet b start.now now.now.said image
    turn image q =
        record
        { is = weaker image.blocks q.is; begins = q.begins; goes_on = q.goes_on; shelf = q.shelf }
