-- The line of a turn.
use Rattle.std.proofs.Common.{◌≡◌, inl, inr, ℕ, zero, suc, ◌-◌, ◌≤◌, List, [], ◌∷◌, Bool, true, false, cond, Option, Some, None, Result, Ok, Err, refl, sym, ap, subst, ◌∙◌, arith}
use Rattle.std.specs.Prelude.{◌&&◌, nat_le}
use Rattle.std.proofs.lemmas.List.{append-nil}
use Rattle.gx_laws.specs.Members.{In}
use Rattle.gx_laws.proofs.NumberLemmas.{at_most_from_nat_le}
use Rattle.gx_device.specs.Crash.{EachImage}
use Rattle.gx_device.proofs.RunLemmas.{weakened}
use Rattle.gx_schema.specs.declared.schema.Schema.{Schema}
use Rattle.gx_commands.specs.declared.command.Command.{Command}
use Rattle.gx_commands.specs.declared.command.Command.TheVariants as command
use Rattle.gx_commands.specs.Commands.{place_reason}
use Rattle.gx_commands.specs.declared.command.LineWhy.{LineWhy}
use Rattle.gx_commands.specs.declared.command.LineWhy.TheVariants as why
use Rattle.gx_commands.specs.Words.{is_line_blank, past_blanks}
use Rattle.gx_commands.specs.Turns.{session_number, numbered, session_at, turn_or, IsTurn}
use Rattle.gx_script.specs.Grammar.{IsLineOf}
use Rattle.gx_ports.specs.Calls.{Keeps}
use Rattle.gx_ports.specs.declared.stop.Stop.{Stop}
use Rattle.gx_ports.specs.declared.stop.Stop.TheVariants as stop
use Rattle.gx_ports.specs.declared.view.View.{Ghosts}
use Rattle.gx_model.specs.States.{State}
use Rattle.gx_engine.specs.Crashes.{HoldsFor}
use Rattle.gx_engine.specs.Steps.{is_commit}
use Rattle.gx_engine.proofs.CrashLemmas.{commit_only}
use Rattle.gx_sharing.specs.Sharing.{Sharing, sessions, is_in, outcome_of}
use Rattle.gx_sharing.specs.Turns.{Turn}
use Rattle.gx_sharing.specs.Texts.{IsLinePlayed}
use Rattle.gx_sessions.specs.declared.sessions.Sessions.{Sessions}
use Rattle.gx_sessions.specs.Turns.{engine_of, leaves_of, AreShared, IsNumber}
use Rattle.gx_shares.specs.Player.{IsCommitOf, IsShortLine}
use Rattle.gx_shares.specs.Steps.{IsTurnOf, IsTurnLine, IsShortTurn, IsStepped, IsStepCut, IsStepImage, LeavesStep}

-- ---- the session of a turn

turn_not_bad : (x : ℕ × List ℕ) (reason : LineWhy)
    → ◌≡◌ {A = Result (Option (ℕ × List ℕ)) LineWhy} (Ok (Some x)) (Err reason) → ⊥
turn_not_bad x reason e = cc

some_same : (n m : ℕ) → ◌≡◌ {A = Option ℕ} (Some n) (Some m) → n ≡ m
some_same n m e = ap value e
  where
    value : Option ℕ → ℕ
    value (Some k) = k
    value None = n

both_of : (a b : Bool) (n m : ℕ) → cond (a && b) (Some n) None ≡ Some m
    → (a ≡ true) × (b ≡ true) × (n ≡ m)
both_of true true n m e = (refl, refl, some_same n m e)
both_of true false n m e = absurd cc
both_of false b n m e = absurd cc

digit_number : (b n : ℕ) → session_number b ≡ Some n → IsNumber n
digit_number b n e =
    let h = both_of (nat_le 49 b) (nat_le b 56) (b - 48) n e in
    let least = at_most_from_nat_le 49 b h.0 in
    let most = at_most_from_nat_le b 56 h.1 in
    let is : b - 48 ≡ n = h.2 in
    (omega (arith, least, is), omega (arith, most, is))

of_digit : (rest : List ℕ) (d : Option ℕ) (n : ℕ) (l : List ℕ) → numbered rest d ≡ Some (n, l)
    → d ≡ Some n
of_digit rest None n l e = absurd cc
of_digit rest (Some m) n l e = ap number e
  where
    number : Option (ℕ × List ℕ) → Option ℕ
    number (Some x) = Some x.0
    number None = None

at_number : (line : List ℕ) (n : ℕ) (l : List ℕ) → session_at line ≡ Some (n, l) → IsNumber n
at_number [] n l e = absurd cc
at_number (b ∷ []) n l e = digit_number b n (of_digit [] (session_number b) n l e)
at_number (b ∷ x ∷ rest) n l e = by_blank (is_line_blank x) e
  where
    by_blank : (t : Bool) → cond t (numbered rest (session_number b)) None ≡ Some (n, l)
        → IsNumber n
    by_blank true same = digit_number b n (of_digit rest (session_number b) n l same)
    by_blank false same = absurd cc

-- the session of a line's turn is one of eight
pub turn_number : (line : List ℕ) (n : ℕ) (rest : List ℕ) → IsTurn line (Ok (Some (n, rest)))
    → IsNumber n
turn_number line n rest (inl h) = absurd (never h.1)
  where
    never : ◌≡◌ {A = Result (Option (ℕ × List ℕ)) LineWhy} (Ok (Some (n, rest))) (Ok None) → ⊥
    never e = cc
turn_number line n rest (inr (inl h)) = absurd (turn_not_bad (n, rest) why.Character h.3)
turn_number line n rest (inr (inr (inl h))) = absurd (turn_not_bad (n, rest) why.Quote h.4)
turn_number line n rest (inr (inr (inr h))) =
    at_number (past_blanks line) n rest (found (session_at (past_blanks line)) h.2)
  where
    found : (s : Option (ℕ × List ℕ)) → Ok (Some (n, rest)) ≡ turn_or s → s ≡ Some (n, rest)
    found None e = absurd (turn_not_bad (n, rest) why.Session e)
    found (Some x) e = ap (λ r. some_of r) (sym e)
      where
        some_of : Result (Option (ℕ × List ℕ)) LineWhy → Option (ℕ × List ℕ)
        some_of (Ok s) = s
        some_of (Err reason) = None

pub in_sessions : (n : ℕ) → IsNumber n → In n sessions
in_sessions n is = go n is.0 is.1
  where
    go : (n : ℕ) → 1 ≤ n → n ≤ 8 → In n sessions
    go zero least most = absurd (omega (arith, least))
    go (suc zero) least most = inl refl
    go (suc (suc zero)) least most = inr (inl refl)
    go (suc (suc (suc zero))) least most = inr (inr (inl refl))
    go (suc (suc (suc (suc zero)))) least most = inr (inr (inr (inl refl)))
    go (suc (suc (suc (suc (suc zero))))) least most = inr (inr (inr (inr (inl refl))))
    go (suc (suc (suc (suc (suc (suc zero)))))) least most = inr (inr (inr (inr (inr (inl refl)))))
    go (suc (suc (suc (suc (suc (suc (suc zero))))))) least most = inr (inr (inr (inr (inr (inr (inl refl))))))
    go (suc (suc (suc (suc (suc (suc (suc (suc zero)))))))) least most = inr (inr (inr (inr (inr (inr (inr (inl refl)))))))
    go (suc (suc (suc (suc (suc (suc (suc (suc (suc n))))))))) least most = absurd (omega (arith, most))

-- ---- the turn of a line

pub turn_goes : (schema : Schema) (p : Sharing) (n : ℕ) (line : List ℕ) (c : Command)
    → IsLineOf schema line c → place_reason (is_in (p.session n)) c ≡ None
    → (ts : List Turn) (next : Sharing) → IsTurnOf schema p n line c ts next
    → IsTurnLine schema p n line ts next
turn_goes schema p n line c means placed ts next goes = (c, means, placed, goes)

pub line_goes : (schema : Schema) (p : Sharing) (line : List ℕ) (n : ℕ) (rest : List ℕ)
    → IsTurn line (Ok (Some (n, rest))) → (ts : List Turn) (next : Sharing)
    → IsTurnLine schema p n rest ts next → IsLinePlayed schema p line ts next
line_goes schema p line n rest is_turn ts next
    (c, means, placed, (text, said, ts_are, next_is)) =
    inr (
      record {
        session = n;
        line = rest;
        command = c;
        outcome = outcome_of schema p n c;
        said = text;
      },
      is_turn,
      ts_are,
      record {
        numbered = in_sessions n (turn_number line n rest is_turn);
        means = means;
        allowed = placed;
        outcome_is = refl;
        said_is = said;
        next_is = next_is;
      },
    )

pub commit_line : (schema : Schema) (rest : List ℕ) (c : Command) → IsLineOf schema rest c
    → is_commit c ≡ true → IsLineOf schema rest command.Commit
commit_line schema rest c means commits =
    subst (λ (x : Command). IsLineOf schema rest x) (commit_only c commits) means

pub commit_of : (schema : Schema) (line : List ℕ) (n : ℕ) (rest : List ℕ)
    → IsTurn line (Ok (Some (n, rest))) → IsLineOf schema rest command.Commit
    → IsCommitOf schema line
commit_of schema line n rest is_turn means = (n, rest, is_turn, means)

pub short_of : (schema : Schema) (Short : Sharing → List Command → Type 0) (p : Sharing)
    (line : List ℕ) (n : ℕ) (rest : List ℕ) → IsTurn line (Ok (Some (n, rest)))
    → IsShortTurn schema Short p n rest → IsShortLine schema Short p line
short_of schema Short p line n rest is_turn (c, means, placed, is_answered, short) = record {
  session = n;
  rest = rest;
  is_turn = is_turn;
  command = c;
  means = means;
  placed = placed;
  is_answered = is_answered;
  short = short;
}

-- what goes in one way goes in another
module _ {S : Type 0} (g : Ghosts S) (Goes Other : List Turn → Sharing → Type 0)
    (other : (ts : List Turn) (next : Sharing) → Goes ts next → Other ts next)
    (old new : Sessions S) where
  pub stepped_as : IsStepped g Goes old new → IsStepped g Other old new
  stepped_as step = record {
    ts = step.ts;
    next = step.next;
    goes = other step.ts step.next step.goes;
    at = step.at;
    said = step.said;
  }

  pub cut_as : (Commit Commits Short Shorts : Type 0) → (Commit → Commits) → (Short → Shorts)
      → (why : Stop) → IsStepCut g Goes Commit Short old new why
      → IsStepCut g Other Commits Shorts old new why
  cut_as Commit Commits Short Shorts commits shorts why cut = record {
    unsaid = cut.unsaid;
    kept = cut.kept;
    cut = elim cut.cut [
      | inl h ↦ inl (
        h.0,
        elim h.1 [
          | inl keeps ↦ inl keeps
          | inr is ↦ inr (commits is)
        ],
      )
      | inr h ↦ inr (h.0, h.1, other h.0 h.1 h.2, h.3, h.4)
    ];
    short = λ full. shorts (cut.short full);
    sound = cut.sound;
  }

  pub leaves_as : (kept : State) (failed : Bool) → LeavesStep g Goes kept failed old new
      → LeavesStep g Other kept failed old new
  leaves_as kept failed leaves = record {
    images = weakened
        (EachImage (IsStepImage (HoldsFor g (engine_of old)) Goes kept
        (g.content (leaves_of old)).now))
        (EachImage (IsStepImage (HoldsFor g (engine_of old)) Other kept
        (g.content (leaves_of old)).now))
        (λ m each image is.
        let i = each image is in
        record {
          is = elim i.is [
            | inl h ↦ inl h
            | inr h ↦ inr (h.0, h.1, other h.0 h.1 h.2, h.3, h.4)
          ];
          shelf = i.shelf;
        }) (g.content (leaves_of old)) (g.content (leaves_of new)) leaves.images;
    calm = leaves.calm;
  }

-- a line that is no turn
pub no_turn : {S : Type 0} (g : Ghosts S) (schema : Schema) (p : Sharing) (line : List ℕ)
    (s : Sessions S) → IsTurn line (Ok None) → AreShared g p s
    → IsStepped g (IsLinePlayed schema p line) s s
no_turn g schema p line s none at = record {
  ts = [];
  next = p;
  goes = inl (none, refl, refl);
  at = at;
  said = λ told. sym (append-nil (g.content (leaves_of s)).now.said);
}

-- a line for which there was no memory
pub unread_cut : {S : Type 0} (g : Ghosts S) (Goes : List Turn → Sharing → Type 0)
    (Commit Short : Type 0) (s : Sessions S) (why : Stop) → why ≡ stop.NoMemory
    → IsStepCut g Goes Commit Short s s why
unread_cut g Goes Commit Short s why is = record {
  unsaid = λ other. refl;
  kept = λ other. still;
  cut = inl (refl, inl still);
  short = λ full. absurd (never_full (sym is ∙ full));
  sound = λ block damaged. never_damaged block (sym is ∙ damaged);
}
  where
    still : Keeps g (leaves_of s) (leaves_of s)
    still = record {
      leaves = refl;
      kept = refl;
      kept_whole = (λ h. h, λ h. h);
      limit = refl;
      head = refl;
      calm = λ s h. h;
      silent = record { said = refl; shelf = refl; script = refl; aside = refl };
    }

    never_full : stop.NoMemory ≡ stop.Full → ⊥
    never_full e = cc

    never_damaged : (block : ℕ) → stop.NoMemory ≡ stop.Damaged block → ⊥
    never_damaged block e = cc
