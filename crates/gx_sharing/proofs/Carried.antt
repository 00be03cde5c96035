-- The commands of one transaction: they answer and change the same on states that are the same
-- where it holds locks, and they are steps of a play.
use Rattle.std.proofs.Common.{◌≡◌, ℕ, List, [], ◌∷◌, ◌++◌, Bool, true, false, Some, None, refl, sym, subst}
use Rattle.std.proofs.lemmas.Bool.{true≢false}
use Rattle.gx_schema.specs.declared.schema.Schema.{Schema}
use Rattle.gx_commands.specs.declared.command.Command.{Command}
use Rattle.gx_commands.specs.declared.command.Command.TheVariants as command
use Rattle.gx_commands.specs.Commands.{place_reason}
use Rattle.gx_script.specs.Grammar.{IsLineOf}
use Rattle.gx_model.specs.States.{State}
use Rattle.gx_model.specs.Commands.{next_state, IsAnswer}
use Rattle.gx_model.specs.Play.{Playing, after_command, IsAnswered, with_working, seen_state}
use Rattle.gx_model.specs.Runs.{Runs}
use Rattle.gx_sharing.specs.Locks.{Item, is_held, is_exclusive, lock_of, held, IsItem}
use Rattle.gx_sharing.specs.Sharing.{Sharing, Session, outside, inside, ended, played, session_after}
use Rattle.gx_sharing.specs.Turns.{Turn, Log, ArePlayed, lines_of, answers_of, log_answered, going_on, with_going, alone}
use Rattle.gx_sharing.proofs.Modes.{held_left, held_right, exclusive_left, exclusive_right}
use Rattle.gx_sharing.proofs.Agreement.{IsSized, Agree, agree_itself, agree_on, answer_alike, next_alike, next_elsewhere}

-- ---- kinds of commands

abbrev pub is_control : Command → Bool
is_control command.Begin = true
is_control command.Commit = true
is_control command.Abort = true
is_control _ = false

pub data Kind : Command → Type 0 where
  begins : Kind command.Begin
  commits : Kind command.Commit
  aborts : Kind command.Abort
  plain : {c : Command} → is_control c ≡ false → Kind c

pub kind_of : (c : Command) → Kind c
kind_of command.Begin = begins
kind_of command.Commit = commits
kind_of command.Abort = aborts
kind_of (command.Insert f values) = plain refl
kind_of (command.Get f key) = plain refl
kind_of (command.Update f key changes) = plain refl
kind_of (command.Delete f key) = plain refl
kind_of (command.Connect l owner member) = plain refl
kind_of (command.Disconnect l member) = plain refl
kind_of (command.Members l owner order) = plain refl
kind_of (command.Owner l member) = plain refl
kind_of (command.Find q) = plain refl
kind_of (command.ReorganizeFile f) = plain refl
kind_of (command.ReorganizeLink l) = plain refl
kind_of command.Nothing = plain refl

-- it may stand inside
plain_allowed : (c : Command) → is_control c ≡ false → place_reason true c ≡ None
plain_allowed command.Begin e = absurd (true≢false e)
plain_allowed command.Commit e = refl
plain_allowed command.Abort e = refl
plain_allowed (command.Insert f values) e = refl
plain_allowed (command.Get f key) e = refl
plain_allowed (command.Update f key changes) e = refl
plain_allowed (command.Delete f key) e = refl
plain_allowed (command.Connect l owner member) e = refl
plain_allowed (command.Disconnect l member) e = refl
plain_allowed (command.Members l owner order) e = refl
plain_allowed (command.Owner l member) e = refl
plain_allowed (command.Find q) e = refl
plain_allowed (command.ReorganizeFile f) e = refl
plain_allowed (command.ReorganizeLink l) e = refl
plain_allowed command.Nothing e = refl

pub plain_answered : (schema : Schema) (q : Playing) (c : Command) → is_control c ≡ false
    → ◌≡◌ {A = List ℕ → Type 0} (IsAnswered schema q c) (IsAnswer schema (seen_state q) c)
plain_answered schema q command.Begin e = absurd (true≢false e)
plain_answered schema q command.Commit e = absurd (true≢false e)
plain_answered schema q command.Abort e = absurd (true≢false e)
plain_answered schema q (command.Insert f values) e = refl
plain_answered schema q (command.Get f key) e = refl
plain_answered schema q (command.Update f key changes) e = refl
plain_answered schema q (command.Delete f key) e = refl
plain_answered schema q (command.Connect l owner member) e = refl
plain_answered schema q (command.Disconnect l member) e = refl
plain_answered schema q (command.Members l owner order) e = refl
plain_answered schema q (command.Owner l member) e = refl
plain_answered schema q (command.Find find) e = refl
plain_answered schema q (command.ReorganizeFile f) e = refl
plain_answered schema q (command.ReorganizeLink l) e = refl
plain_answered schema q command.Nothing e = refl

pub plain_after : (schema : Schema) (q : Playing) (c : Command) → is_control c ≡ false
    → after_command schema q c ≡ with_working q (next_state schema (seen_state q) c)
plain_after schema q command.Begin e = absurd (true≢false e)
plain_after schema q command.Commit e = absurd (true≢false e)
plain_after schema q command.Abort e = absurd (true≢false e)
plain_after schema q (command.Insert f values) e = refl
plain_after schema q (command.Get f key) e = refl
plain_after schema q (command.Update f key changes) e = refl
plain_after schema q (command.Delete f key) e = refl
plain_after schema q (command.Connect l owner member) e = refl
plain_after schema q (command.Disconnect l member) e = refl
plain_after schema q (command.Members l owner order) e = refl
plain_after schema q (command.Owner l member) e = refl
plain_after schema q (command.Find find) e = refl
plain_after schema q (command.ReorganizeFile f) e = refl
plain_after schema q (command.ReorganizeLink l) e = refl
plain_after schema q command.Nothing e = refl

-- a session after such a command
abbrev pub joined : Session → Command → Session
joined outside c = outside
joined (inside cs) c = inside (cs ++ c ∷ [])
joined ended c = ended

session_same : (s : Session) → ◌≡◌ {A = Session} s s
session_same s = refl

pub plain_session : (s : Session) (c : Command) → is_control c ≡ false
    → session_after s c ≡ joined s c
plain_session s command.Begin e = absurd (true≢false e)
plain_session s command.Commit e = absurd (true≢false e)
plain_session s command.Abort e = absurd (true≢false e)
plain_session outside (command.Insert f values) e = refl
plain_session outside (command.Get f key) e = refl
plain_session outside (command.Update f key changes) e = refl
plain_session outside (command.Delete f key) e = refl
plain_session outside (command.Connect l owner member) e = refl
plain_session outside (command.Disconnect l member) e = refl
plain_session outside (command.Members l owner order) e = refl
plain_session outside (command.Owner l member) e = refl
plain_session outside (command.Find find) e = refl
plain_session outside (command.ReorganizeFile f) e = refl
plain_session outside (command.ReorganizeLink l) e = refl
plain_session outside command.Nothing e = refl
plain_session (inside cs) (command.Insert f values) e = refl
plain_session (inside cs) (command.Get f key) e = refl
plain_session (inside cs) (command.Update f key changes) e = refl
plain_session (inside cs) (command.Delete f key) e = refl
plain_session (inside cs) (command.Connect l owner member) e = refl
plain_session (inside cs) (command.Disconnect l member) e = refl
plain_session (inside cs) (command.Members l owner order) e = refl
plain_session (inside cs) (command.Owner l member) e = refl
plain_session (inside cs) (command.Find find) e = refl
plain_session (inside cs) (command.ReorganizeFile f) e = refl
plain_session (inside cs) (command.ReorganizeLink l) e = refl
plain_session (inside cs) command.Nothing e = refl
plain_session ended (command.Insert f values) e = refl
plain_session ended (command.Get f key) e = refl
plain_session ended (command.Update f key changes) e = refl
plain_session ended (command.Delete f key) e = refl
plain_session ended (command.Connect l owner member) e = refl
plain_session ended (command.Disconnect l member) e = refl
plain_session ended (command.Members l owner order) e = refl
plain_session ended (command.Owner l member) e = refl
plain_session ended (command.Find find) e = refl
plain_session ended (command.ReorganizeFile f) e = refl
plain_session ended (command.ReorganizeLink l) e = refl
plain_session ended command.Nothing e = refl

pub plain_log : (outer : Bool) (log : Log) (t : Turn) (c : Command) → is_control c ≡ false
    → log_answered outer log t c
    ≡ record {
      going = with_going log.going t.session (going_on (log.going t.session) t);
      committed = log.committed ++ alone outer (log.going t.session) t;
    }
plain_log outer log t command.Begin e = absurd (true≢false e)
plain_log outer log t command.Commit e = absurd (true≢false e)
plain_log outer log t command.Abort e = absurd (true≢false e)
plain_log outer log t (command.Insert f values) e = refl
plain_log outer log t (command.Get f key) e = refl
plain_log outer log t (command.Update f key changes) e = refl
plain_log outer log t (command.Delete f key) e = refl
plain_log outer log t (command.Connect l owner member) e = refl
plain_log outer log t (command.Disconnect l member) e = refl
plain_log outer log t (command.Members l owner order) e = refl
plain_log outer log t (command.Owner l member) e = refl
plain_log outer log t (command.Find find) e = refl
plain_log outer log t (command.ReorganizeFile f) e = refl
plain_log outer log t (command.ReorganizeLink l) e = refl
plain_log outer log t command.Nothing e = refl

-- ---- commands one after another

module _ (schema : Schema) (at : Item → Bool) where
  pub played_alike : (s t : State) (cs : List Command) → Agree schema at s t
      → ((x : Item) → is_held (held schema cs x) ≡ true → at x ≡ true)
      → Agree schema at (played schema s cs) (played schema t cs)
  played_alike s t [] a within = a
  played_alike s t (c ∷ cs) a within =
      played_alike (next_state schema s c) (next_state schema t c) cs
      (next_alike schema at s t a c
      (λ x h. within x (held_left (lock_of schema c x) (held schema cs x) h)))
      (λ x h. within x (held_right (lock_of schema c x) (held schema cs x) h))

  pub played_elsewhere : (s : State) (cs : List Command) → IsSized schema s
      → ((x : Item) → IsItem schema x → is_exclusive (held schema cs x) ≡ true → at x ≡ false)
      → Agree schema at s (played schema s cs)
  played_elsewhere s [] is away = agree_itself schema at s is
  played_elsewhere s (c ∷ cs) is away =
      let one = next_elsewhere schema at s is c
      (λ x i h. away x i (exclusive_left (lock_of schema c x) (held schema cs x) h)) in
      agree_on schema at s (next_state schema s c) (played schema (next_state schema s c) cs) one
      (played_elsewhere (next_state schema s c) cs one.other
      (λ x i h. away x i (exclusive_right (lock_of schema c x) (held schema cs x) h)))

pub played_push : (schema : Schema) (s : State) (cs : List Command) (c : Command)
    → played schema s (cs ++ c ∷ []) ≡ next_state schema (played schema s cs) c
played_push schema s [] c = refl
played_push schema s (d ∷ cs) c = played_push schema (next_state schema s d) cs c

-- ---- turns that were carried out on a state

pub record IsCarriedOn (schema : Schema) (s : State) (c : Command) (t : Turn) : Type 0 where
  pub means : IsLineOf schema t.line c
  pub plain_is : is_control c ≡ false
  pub answered_is : IsAnswer schema s c t.said

abbrev pub AreCarriedOn : Schema → State → List Command → List Turn → Type 0
AreCarriedOn schema s [] [] = Unit {0}
AreCarriedOn schema s [] (t ∷ ts) = ⊥
AreCarriedOn schema s (c ∷ cs) [] = ⊥
AreCarriedOn schema s (c ∷ cs) (t ∷ ts) =
    IsCarriedOn schema s c t × AreCarriedOn schema (next_state schema s c) cs ts

pub carried_alike : (schema : Schema) (at : Item → Bool) (s t : State) (cs : List Command)
    (ts : List Turn) → Agree schema at s t
    → ((x : Item) → is_held (held schema cs x) ≡ true → at x ≡ true)
    → AreCarriedOn schema s cs ts → AreCarriedOn schema t cs ts
carried_alike schema at s t [] [] a within are = tt
carried_alike schema at s t [] (u ∷ us) a within are = absurd are
carried_alike schema at s t (c ∷ cs) [] a within are = absurd are
carried_alike schema at s t (c ∷ cs) (u ∷ us) a within (is, are) = (
  record {
    means = is.means;
    plain_is = is.plain_is;
    answered_is = answer_alike schema at s t a c u.said
        (λ x h. within x (held_left (lock_of schema c x) (held schema cs x) h)) is.answered_is;
  },
  carried_alike schema at (next_state schema s c) (next_state schema t c) cs us
      (next_alike schema at s t a c
      (λ x h. within x (held_left (lock_of schema c x) (held schema cs x) h)))
      (λ x h. within x (held_right (lock_of schema c x) (held schema cs x) h)) are,
)

pub carried_push : (schema : Schema) (s : State) (cs : List Command) (ts : List Turn) (c : Command)
    (t : Turn) → AreCarriedOn schema s cs ts → IsCarriedOn schema (played schema s cs) c t
    → AreCarriedOn schema s (cs ++ c ∷ []) (ts ++ t ∷ [])
carried_push schema s [] [] c t are is = (is, tt)
carried_push schema s [] (u ∷ us) c t are is = absurd are
carried_push schema s (d ∷ cs) [] c t are is = absurd are
carried_push schema s (d ∷ cs) (u ∷ us) c t (first, are) is =
    (first, carried_push schema (next_state schema s d) cs us c t are is)

-- the play of a transaction, with this working state
abbrev pub in_play : Sharing → State → Playing
in_play p w =
    record { earlier = p.earlier; kept = p.kept; working = Some w; commits = p.commits }

-- turns go on where others ended
pub played_on : (schema : Schema) (p middle final : Playing) (a b : List Turn)
    → ArePlayed schema p a middle → ArePlayed schema middle b final
    → ArePlayed schema p (a ++ b) final
played_on schema p middle final [] b same later =
    subst (λ (q : Playing). ArePlayed schema q b final) same later
played_on schema p middle final (t ∷ a) b (next, step, rest) later =
    (next, step, played_on schema next middle final a b rest later)

-- the lines of turns that were played run, with their answers
pub played_runs : (schema : Schema) (p final : Playing) (ts : List Turn)
    → ArePlayed schema p ts final → Runs schema p (lines_of ts) (answers_of ts) final
played_runs schema p final [] same = (refl, same)
played_runs schema p final (t ∷ ts) (next, step, rest) =
    (t.said, answers_of ts, next, step, played_runs schema next final ts rest, refl)

pub carried_played : (schema : Schema) (p : Sharing) (w : State) (cs : List Command)
    (ts : List Turn) → AreCarriedOn schema w cs ts
    → ArePlayed schema (in_play p w) ts (in_play p (played schema w cs))
carried_played schema p w [] [] are = refl
carried_played schema p w [] (t ∷ ts) are = absurd are
carried_played schema p w (c ∷ cs) [] are = absurd are
carried_played schema p w (c ∷ cs) (t ∷ ts) (is, are) = (
  in_play p (next_state schema w c),
  record {
    command = c;
    means = is.means;
    allowed = plain_allowed c is.plain_is;
    answered = subst (λ (F : List ℕ → Type 0). F t.said)
        (sym (plain_answered schema (in_play p w) c is.plain_is)) is.answered_is;
    next_is = sym (plain_after schema (in_play p w) c is.plain_is);
  },
  carried_played schema p (next_state schema w c) cs ts are,
)
