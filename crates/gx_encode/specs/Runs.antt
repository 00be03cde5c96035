-- The code of a text: its runs, each a count and a byte.
use Rattle.std.specs.Prelude.{◌≡◌, ◌≢◌, ℕ, suc, ◌<◌, ◌≤◌, Bool, false, ◌&&◌, not, Option, Some, None, List, [], ◌∷◌, nat_eq, nat_le, if◌then◌else◌}
use Rattle.std.specs.List.{flat_map}
use Rattle.std.proofs.Math.ListN.{replicate}
use Rattle.gx_values.specs.declared.values.Kind.TheVariants as kind
use Rattle.gx_values.specs.declared.values.Value.TheVariants as value
use Rattle.gx_values.specs.Values.{Fits, is_printable}

-- one byte more in front: the first run grows, or a new one begins
abbrev pub with_byte : ℕ → List (ℕ × ℕ) → List (ℕ × ℕ)
with_byte b [] = (1, b) ∷ []
with_byte b (run ∷ runs) = if nat_eq b run.1 then (suc run.0, b) ∷ runs else (1, b) ∷ run ∷ runs

abbrev pub runs_of : List ℕ → List (ℕ × ℕ)
runs_of [] = []
runs_of (b ∷ text) = with_byte b (runs_of text)

-- a count byte and the byte, for each run
abbrev pub bytes_of_runs : List (ℕ × ℕ) → List ℕ
bytes_of_runs [] = []
bytes_of_runs (run ∷ runs) = run.0 ∷ run.1 ∷ bytes_of_runs runs

abbrev pub rle : List ℕ → List ℕ
rle text = bytes_of_runs (runs_of text)

-- the text that the runs are of
abbrev pub joined : List (ℕ × ℕ) → List ℕ
joined = flat_map (λ (run : ℕ × ℕ). replicate run.0 run.1)

-- runs that come after a byte: each has some bytes, and another byte than the one before it
abbrev pub AreLongest : Option ℕ → List (ℕ × ℕ) → Type 0
AreLongest previous [] = Unit {0}
AreLongest previous (run ∷ runs) =
    (0 < run.0) × (previous ≢ Some run.1) × AreLongest (Some run.1) runs

-- the longest runs of the text
pub record AreRuns (text : List ℕ) (runs : List (ℕ × ℕ)) : Type 0 where
  pub joined : joined runs ≡ text
  pub longest : AreLongest None runs

-- the bytes are the counts and bytes of the longest runs
pub record IsCodeOfRuns (text bytes : List ℕ) : Type 0 where
  pub runs : List (ℕ × ℕ)
  pub are : AreRuns text runs
  pub pairs : bytes ≡ bytes_of_runs runs

-- the count of each run can be written
abbrev pub AreShort : List (ℕ × ℕ) → Type 0
AreShort [] = Unit {0}
AreShort (run ∷ runs) = (run.0 ≤ 200) × AreShort runs

-- a text of at most so many printable bytes, of which none stands more than 200 times in a row
pub record IsCoded (longest : ℕ) (text : List ℕ) : Type 0 where
  pub fits : Fits (kind.Text longest) (value.Text text)
  pub short : AreShort (runs_of text)

-- the text whose code these bytes are, or they are the code of none
abbrev pub IsUnrle : ℕ → List ℕ → Option (List ℕ) → Type 0
IsUnrle longest bytes (Some text) = IsCoded longest text × (rle text ≡ bytes)
IsUnrle longest bytes None = (text : List ℕ) → IsCoded longest text → rle text ≢ bytes

-- ---- reading

abbrev pub is_same : Option ℕ → ℕ → Bool
is_same None b = false
is_same (Some a) b = nat_eq a b

-- whether a run of the byte may come after the one before, where so many bytes have room
abbrev pub is_next : Option ℕ → ℕ → ℕ → ℕ → Bool
is_next previous count b room =
    not (is_same previous b) && nat_le 1 count && nat_le count 200 && nat_le count room &&
    is_printable b

-- how many bytes at the front are this one
abbrev pub repeats : ℕ → List ℕ → ℕ
repeats b [] = 0
repeats b (x ∷ text) = if nat_eq b x then suc (repeats b text) else 0

-- the byte of the last run, where there is one
abbrev pub last_from : Option ℕ → List (ℕ × ℕ) → Option ℕ
last_from previous [] = previous
last_from previous (run ∷ runs) = last_from (Some run.1) runs
