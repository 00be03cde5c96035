-- The working pages, the kept ones and calm, as functions of a journal's parts.
use Rattle.std.specs.Prelude.{◌≡◌, ℕ, Bool, false, List, [], length, map, replicate, IsTrue, if◌then◌else◌}
use Rattle.std.specs.List.{range_with_len}
use Rattle.gx_frames.specs.Pool.{Resident}
use Rattle.gx_device.specs.Content.{Content}
use Rattle.gx_layout.specs.Layout.{head_of}
use Rattle.gx_layout.specs.Calm.{Calm, kept_view}
use Rattle.gx_journal.specs.Sources.{page_of}

-- what stands for pages of which a device tells nothing
abbrev pub blank : ℕ → List (List ℕ)
blank P = replicate P []

-- the working pages: page by page
abbrev pub pages_told : Bool → ℕ → ℕ → Content → List Bool → List Resident → List (List ℕ)
pages_told tells size P c spilled residents =
    if tells then map (page_of size P c.now.blocks spilled residents) (range_with_len 0 P)
    else blank P

-- the kept pages: the homes as they read
abbrev pub homes_told : Bool → ℕ → Content → List (List ℕ)
homes_told tells P c = if tells then (kept_view P c).pages else blank P

abbrev pub head_told : Bool → Content → List (List ℕ)
head_told tells c = if tells then head_of c.now.blocks else []

-- no commit failed, and since that content each image stands for the kept pages
pub record CalmSince (tells failed : Bool) (P : ℕ) (start c : Content) : Type 0 where
  pub told : IsTrue tells
  pub steady : failed ≡ false
  pub count : length (kept_view P c).pages ≡ P
  pub calm : Calm start (kept_view P c) c
