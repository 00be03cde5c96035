-- A device that a request names is wrong, or it can be opened.
use Rattle.std.proofs.Common.{◌≡◌, ℕ, zero, suc, ◌<◌, ◌≤◌, List, [], ◌∷◌, ◌++◌, length, take, drop, get_or, Option, Some, None, refl, sym, subst, ap, ◌∙◌, arith, inl, inr}
use Rattle.std.specs.Prelude.{◌⊎◌, ◌≢◌, slice_index_or}
use Rattle.std.proofs.lemmas.Bool.{cases_lt}
use Rattle.std.proofs.lemmas.List.{take-append-drop}
use Rattle.std.proofs.lemmas.Option.{same_Some}
use Rattle.std.proofs.Math.Seq.{take-append_seam}
use Rattle.gx_device.specs.Content.{Content, device_at}
use Rattle.gx_device.specs.Quiet.{IsPrefix}
use Rattle.gx_layout.specs.Head.{HasMagic, text_at, text_area}
use Rattle.gx_layout.specs.Layout.{head_of}
use Rattle.gx_layout.specs.Places.{magic_of}
use Rattle.gx_layout.specs.declared.places.TheConstants.{TEXT_AREA_LEN, MAX_BLOCKS}
use Rattle.gx_schema.specs.Printing.{schema_text}
use Rattle.gx_equation.specs.Printing.{equation_text}
use Rattle.gx_ports.specs.declared.kinds.LeafSpec.{LeafSpec}
use Rattle.gx_store.specs.Device.{IsSize, HasTexts, smallest_device}
use Rattle.gx_store.specs.Opening.{AreOpened}
use Rattle.gx_store.specs.Store.{OfBlocks}
use Rattle.gx_play.specs.declared.ending.DeviceWhy.{DeviceWhy}
use Rattle.gx_play.specs.declared.ending.DeviceWhy.TheVariants as device_why
use Rattle.gx_requests.proofs.DecidedLemmas.{same_or_not, lists_same}
use Rattle.gx_operations.specs.Given.{Given, under}
use Rattle.gx_operations.specs.Wrong.{IsWrong}
use Rattle.gx_top.specs.Laws.{AreCases}

-- ---- what is decided

pub sized : (specs : List LeafSpec) (n : ℕ) → IsSize specs n ⊎ (¬ IsSize specs n)
sized specs n = by_both (cases_lt n (smallest_device specs)) (cases_lt MAX_BLOCKS n)
  where
    by_both : (n < smallest_device specs) ⊎ (smallest_device specs ≤ n)
        → (MAX_BLOCKS < n) ⊎ (n ≤ MAX_BLOCKS) → IsSize specs n ⊎ (¬ IsSize specs n)
    by_both (inl few) other = inr (λ size. omega (arith, few, size.least))
    by_both (inr least) (inl many) = inr (λ size. omega (arith, many, size.most))
    by_both (inr least) (inr most) = inl (record { least = least; most = most })

begins : (front block : List ℕ) → IsPrefix front block ⊎ (¬ IsPrefix front block)
begins front block = by_front (lists_same (take (length front) block) front)
  where
    by_front : (take (length front) block ≡ front) ⊎ (take (length front) block ≢ front)
        → IsPrefix front block ⊎ (¬ IsPrefix front block)
    by_front (inl same) = inl (
      drop (length front) block,
      sym (take-append-drop (length front) block)
          ∙ ap (λ (l : List ℕ). l ++ drop (length front) block) same,
    )
    by_front (inr not) = inr (λ is. not
        (ap (λ (l : List ℕ). take (length front) l) is.1 ∙ take-append_seam front is.0))

magical : (size : ℕ) (block : List ℕ) → HasMagic size block ⊎ (¬ HasMagic size block)
magical size block = begins (magic_of size) block

-- bytes are the same below n, or differ first at a place
abbrev FoundBelow : (ℕ → ℕ) → (ℕ → ℕ) → ℕ → Type 0
FoundBelow xs ys n =
    (q : ℕ) × (q < n) × (xs q ≢ ys q) × ((p : ℕ) → p < q → xs p ≡ ys p)

found_below : (xs ys : ℕ → ℕ) (n : ℕ) → ((p : ℕ) → p < n → xs p ≡ ys p) ⊎ FoundBelow xs ys n
found_below xs ys zero = inl (λ p below. absurd (omega (arith, below)))
found_below xs ys (suc n) = by_first (found_below xs ys n) (same_or_not (xs n) (ys n))
  where
    by_first : ((p : ℕ) → p < n → xs p ≡ ys p) ⊎ FoundBelow xs ys n
        → (xs n ≡ ys n) ⊎ (xs n ≢ ys n)
        → ((p : ℕ) → p < suc n → xs p ≡ ys p) ⊎ FoundBelow xs ys (suc n)
    by_first (inr found) other =
        let below : found.0 < suc n = omega (arith, found.1) in
        inr (found.0, below, found.2, found.3)
    by_first (inl all) (inr not) =
        let below : n < suc n = omega arith in
        inr (n, below, not, all)
    by_first (inl all) (inl same) = inl (λ p below. at p below (cases_lt p n))
      where
        at : (p : ℕ) → p < suc n → (p < n) ⊎ (n ≤ p) → xs p ≡ ys p
        at p below (inl less) = all p less
        at p below (inr least) =
            let here : n ≡ p = omega (arith, below, least) in
            subst (λ k. xs k ≡ ys k) here same

-- ---- the cases

module _ (g : Given) (device : List ℕ) (c : Content) where
  abbrev Opened : Type 0
  Opened = OfBlocks device c (under g AreOpened)

  abbrev Wrong : Type 0
  Wrong = (why : DeviceWhy) × IsWrong g device c why

  by_blocks : (blocks : List (List ℕ)) → device_at c.now device ≡ Some blocks → Wrong ⊎ Opened
  by_blocks blocks there =
      by_size (sized g.typing.specs (length blocks))
      (magical (length blocks) (get_or blocks 0 []))
      (found_below (text_at (head_of blocks))
      (λ q. slice_index_or (text_area (schema_text g.schema) (equation_text g.definitions)) q 0)
      TEXT_AREA_LEN)
    where
      by_size : IsSize g.typing.specs (length blocks) ⊎ (¬ IsSize g.typing.specs (length blocks))
          → HasMagic (length blocks) (get_or blocks 0 [])
          ⊎ (¬ HasMagic (length blocks) (get_or blocks 0 []))
          → HasTexts (schema_text g.schema) (equation_text g.definitions) blocks
          ⊎ FoundBelow (text_at (head_of blocks))
          (λ q. slice_index_or (text_area (schema_text g.schema) (equation_text g.definitions)) q 0)
          TEXT_AREA_LEN → Wrong ⊎ Opened
      by_size (inr not) m t = inl (device_why.Size, (blocks, there, not))
      by_size (inl size) (inr not) t = inl (device_why.NoDatabase, (blocks, there, (size, not)))
      by_size (inl size) (inl magic) (inr found) =
          inl (
            device_why.OtherEquation found.0,
            (
              blocks,
              there,
              (
                size,
                magic,
                (found.1, found.2, found.3),
              ),
            ),
          )
      by_size (inl size) (inl magic) (inl texts) =
          inr (blocks, there, record { size = size; magic = magic; texts = texts })

  by_device : (found : Option (List (List ℕ))) → device_at c.now device ≡ found → Wrong ⊎ Opened
  by_device None none = inl (device_why.Missing, none)
  by_device (Some blocks) there = by_blocks blocks there

  same_there : (a b : List (List ℕ)) → device_at c.now device ≡ Some a
      → device_at c.now device ≡ Some b → a ≡ b
  same_there a b one two = same_Some a b (sym one ∙ two)

  none_some : (b : List (List ℕ)) → ◌≡◌ {A = Option (List (List ℕ))} None (Some b) → ⊥
  none_some b same = cc

  not_wrong : (why : DeviceWhy) → IsWrong g device c why → Opened → ⊥
  not_wrong device_why.Missing is o = none_some o.0 (sym is ∙ o.1)
  not_wrong device_why.Size is o =
      is.2 (subst (λ b. IsSize g.typing.specs (length b)) (same_there o.0 is.0 o.1 is.1) o.2.size)
  not_wrong device_why.NoDatabase is o =
      is.2.1 (subst (λ (b : List (List ℕ)). HasMagic (length b) (get_or b 0 []))
      (same_there o.0 is.0 o.1 is.1) o.2.magic)
  not_wrong (device_why.OtherEquation place) is o =
      is.2.2.1 (subst (λ (b : List (List ℕ)).
      HasTexts (schema_text g.schema) (equation_text g.definitions) b)
      (same_there o.0 is.0 o.1 is.1) o.2.texts place is.2.2.0)
  not_wrong device_why.Exists is o = is
  not_wrong (device_why.Damaged block) is o = is

  pub are_cases : AreCases g device c
  are_cases = record {
    some = by_device (device_at c.now device) refl;
    never = not_wrong;
    held = λ s is. (
      is.0,
      is.1,
      record {
        size = is.2.reopens.size;
        magic = is.2.reopens.magic;
        texts = is.2.reopens.texts;
      },
    );
    not_held = λ s is none. none.none s is;
    none = λ opened none. record { opened = opened; none = none };
  }
