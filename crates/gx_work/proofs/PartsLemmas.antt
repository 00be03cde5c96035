-- A text of lines, each with an LF, is cut into these lines.
use Rattle.std.proofs.Common.{◌≡◌, ℕ, ◌≤◌, true, false, eqb, ltb, List, [], ◌∷◌, ◌++◌, length, take, refl, ap, subst, ◌∙◌, append_assoc, arith, take_all}
use Rattle.std.specs.Prelude.{None, nat_lt}
use Rattle.std.specs.List.{AllByRecursion, list_all, flat_map}
use Rattle.std.proofs.lemmas.Bool.{and_parts, ne_eqb, cond-false, ltb-true}
use Rattle.gx_commands.specs.Words.{is_character}
use Rattle.gx_commands.specs.Lines.{Parts, Lines, parts_of, with_first_byte, without_cr, up_to_limit, with_line, longest_line, longest_script, script_lines, lines_within}

-- a line of characters, and of no more than they may be
pub record IsFine (line : List ℕ) : Type 0 where
  pub characters : list_all is_character line ≡ true
  pub short : length line ≤ 4096

no_lf : (b : ℕ) → is_character b ≡ true → b ≡ 10 → ⊥
no_lf b h e = let x : is_character 10 ≡ true = subst (λ n. is_character n ≡ true) e h in cc

no_cr : (b : ℕ) → is_character b ≡ true → b ≡ 13 → ⊥
no_cr b h e = let x : is_character 13 ≡ true = subst (λ n. is_character n ≡ true) e h in cc

one_part : (line rest : List ℕ) → list_all is_character line ≡ true
    → parts_of (line ++ 10 ∷ rest)
    ≡ record { ended = line ∷ (parts_of rest).ended; rest = (parts_of rest).rest }
one_part [] rest h = refl
one_part (b ∷ bs) rest h =
    let p = and_parts (is_character b) (list_all is_character bs) h in
    cond-false (eqb b 10) _ _ (ne_eqb b 10 (no_lf b p.0))
    ∙ ap (λ (x : Parts). with_first_byte b x.ended x.rest) (one_part bs rest p.1)

abbrev pub joined : List (List ℕ) → List ℕ
joined lines = flat_map (λ line. line ++ 10 ∷ []) lines

cut : (lines : List (List ℕ)) → AllByRecursion IsFine lines
    → parts_of (joined lines) ≡ record { ended = lines; rest = [] }
cut [] h = refl
cut (line ∷ lines) h =
    ap parts_of (append_assoc line (10 ∷ []) (joined lines))
    ∙ one_part line (joined lines) h.0.characters
    ∙ ap (λ (x : Parts). record { ended = line ∷ x.ended; rest = x.rest }) (cut lines h.1)

same_line : (line : List ℕ) → list_all is_character line ≡ true → without_cr line ≡ line
same_line [] h = refl
same_line (b ∷ []) h = let p = and_parts (is_character b) true h in
    cond-false (eqb b 13) _ _ (ne_eqb b 13 (no_cr b p.0))
same_line (b ∷ c ∷ bs) h = let p = and_parts (is_character b) (list_all is_character (c ∷ bs)) h in
    ap (λ t. b ∷ t) (same_line (c ∷ bs) p.1)

within : (a b : ℕ) → b ≤ a → nat_lt a b ≡ false
within a b le = elim (ltb a b) as (λ x. ltb a b ≡ x
    → x ≡ false) [ true ↦ λ e. absurd (omega (arith, ltb-true a b e)) | false ↦ λ e. refl ] refl

up_to : (lines : List (List ℕ)) → AllByRecursion IsFine lines
    → up_to_limit lines [] false ≡ record { lines = lines; stop = None }
unfolding longest_line
up_to [] h = refl
up_to (line ∷ lines) h =
    cond-false (nat_lt 4096 (length line)) _ _ (within 4096 (length line) h.0.short)
    ∙ ap (λ (x : Lines). with_line (without_cr line) x) (up_to lines h.1)
    ∙ ap (λ l. record { lines = l ∷ lines; stop = None }) (same_line line h.0.characters)

pub lines_of_text : (lines : List (List ℕ)) → AllByRecursion IsFine lines
    → length (joined lines) ≤ 16777216
    → script_lines (joined lines) ≡ record { lines = lines; stop = None }
unfolding lines_within longest_script
lines_of_text lines h le =
    let all : take 16777216 (joined lines) ≡ joined lines = take_all 16777216 (joined lines) le in
    ap (λ t. up_to_limit (parts_of t).ended (parts_of t).rest
    (nat_lt 16777216 (length (joined lines)))) all
    ∙ ap (λ (x : Parts). up_to_limit x.ended x.rest (nat_lt 16777216 (length (joined lines))))
    (cut lines h)
    ∙ ap (up_to_limit lines []) (within 16777216 (length (joined lines)) le)
    ∙ up_to lines h
