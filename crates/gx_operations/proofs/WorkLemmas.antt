-- `work`: its promise, from what making the device and playing on it did, what is said then, and
-- what a crash leaves of all of it.
use Rattle.std.proofs.Common.{◌≡◌, ◌∙◌, inl, inr, ℕ, zero, suc, List, [], ◌++◌, take, get_or, Option, Some, None, Result, Ok, Err, refl, sym, ap, subst, arith}
use Rattle.std.specs.Prelude.{◌⊎◌, ◌≢◌, OnOk}
use Rattle.std.proofs.lemmas.List.{append-nil, append_cancel_left}
use Rattle.std.proofs.lemmas.Option.{same_Some}
use Rattle.gx_device.specs.Content.{Moment, Content, device_at}
use Rattle.gx_device.specs.Crash.{Image, IsImage, EachImage, LeavesOnly}
use Rattle.gx_ports.specs.declared.kinds.LeafSpec.{LeafSpec}
use Rattle.gx_ports.specs.LeafMaps.{LeafMap}
use Rattle.gx_schema.specs.declared.schema.Schema.{Schema}
use Rattle.gx_commands.specs.declared.command.LineWhy.{LineWhy}
use Rattle.gx_commands.specs.Lines.{script_lines}
use Rattle.gx_model.specs.Play.{Playing, End, good, stopped, start_at}
use Rattle.gx_model.specs.States.{State, empty_state}
use Rattle.gx_play.proofs.AskedLemmas.{play_once}
use Rattle.gx_work.specs.Schema.{work_schema}
use Rattle.gx_work.specs.Summary.{work_text}
use Rattle.gx_work.specs.Workload.{work_script}
use Rattle.gx_store.specs.Crashes.{Unattached}
use Rattle.gx_store.specs.Device.{IsSize, IsNoneOrEmpty, Reopens}
use Rattle.gx_store.specs.Store.{Attaches}
use Rattle.gx_store.proofs.ShelfLemmas.{named_at}
use Rattle.gx_store.proofs.SettledLemmas.{settled_reopens}
use Rattle.gx_play.specs.Played.{IsPlay, AreFirst, MayBeFullAt}
use Rattle.gx_play.specs.Player.{Play, IsDueOf, IsAfterFirst}
use Rattle.gx_play.specs.declared.ending.DeviceWhy.{DeviceWhy}
use Rattle.gx_play.specs.declared.ending.DeviceWhy.TheVariants as device_why
use Rattle.gx_play.specs.declared.ending.Ending.{Ending}
use Rattle.gx_play.specs.declared.ending.Ending.TheVariants as ending
use Rattle.gx_play.specs.declared.status.Status.{Status}
use Rattle.gx_play.specs.declared.status.Status.TheVariants as status
use Rattle.gx_play.specs.Endings.{IsEnded, IsTold, EndsThrough, TellsThrough, ending_line, memory_line, full_line, status_of}
use Rattle.gx_play.specs.Say.{SameDevices}
use Rattle.gx_requests.specs.declared.opened.Stored.{Stored}
use Rattle.gx_operations.specs.Settled.{limits_on}
use Rattle.gx_operations.specs.Making.{IsUnmakable}
use Rattle.gx_operations.specs.Working.{HoldsFirst as LeavesFirst, IsSettledOf, IsPlayedOn, IsNewDevice, IsWorking, IsWorkingImage, WorksThrough, EachReopens}
use Rattle.gx_operations.specs.Given.{Given, IsStoredAs, HoldState, SettleState}
use Rattle.gx_operations.specs.Promises.{IsKept, IsSaid}
use Rattle.gx_operations.specs.Crashes.{IsLeftOf, CrashesOn}
use Rattle.gx_operations.specs.Makes.{makes_none}
use Rattle.gx_operations.specs.Works.{work_play, works_on, WorksOn, WorkSays, HoldsFirst, IsWorkedOn, IsWorkImage}
use Rattle.gx_operations.proofs.UnchangedLemmas.{attached_crashes}
use Rattle.gx_operations.proofs.CrashLemmas.{reads_now, leaves_weaker, leaves_both, says_leaves, ends_leaves, ends_idle, unattached_idle}
use Rattle.gx_operations.proofs.EndedLemmas.{devices_same, ended_due, ended_said}
use Rattle.gx_play.proofs.FullLemmas.{full_by_state}
use Rattle.gx_operations.proofs.GivenLemmas.{under_given, hold_given, settle_given}
use Rattle.gx_operations.proofs.MakeLemmas.{none_there, not_both, unmade_kept}

-- ---- the plays

module _ (g : Given) (x : Stored) (of : IsStoredAs g x) (is_work : x.schema ≡ work_schema)
    (count records : ℕ) where
  abbrev pub Plays : Play Playing
  Plays = work_play g count records

  of_work : work_schema ≡ g.schema
  of_work = sym is_work ∙ of.schema

  ends_of : (answers : List ℕ) (final : Playing)
      → IsPlay work_schema (empty_state work_schema) (work_script records) answers final good
      → Plays.Ends good answers final
  ends_of answers final is =
      subst (λ (k : Schema). IsPlay k (empty_state k) (work_script records) answers final good)
      of_work is

  first_of : (answers : List ℕ)
      (f : AreFirst work_schema (empty_state work_schema) (work_script records) answers)
      → Plays.First answers f.final
  first_of answers f =
      subst (λ (k : Schema). IsAfterFirst k (empty_state k) (work_script records) answers f.final)
      of_work (record { first = f; is = refl })

  full_of : (answers : List ℕ) (final : Playing)
      → MayBeFullAt work_schema x.built (Some (limits_on x.built.specs count))
      (empty_state work_schema) (work_script records) answers final → Plays.Full answers final
  full_of answers final full =
      full_by_state g.schema g.definitions x.built (Some (limits_on g.typing.specs count))
      (empty_state g.schema) (work_script records) answers final of.trees
      (subst (λ (ks : List LeafSpec). MayBeFullAt g.schema x.built (Some (limits_on ks count))
      (empty_state g.schema) (work_script records) answers final) of.specs
      (subst (λ (k : Schema). MayBeFullAt k x.built (Some (limits_on x.built.specs count))
      (empty_state k) (work_script records) answers final) of_work full))

  -- the lines before a full device are first ones
  first_full : (answers : List ℕ) (final : Playing)
      → MayBeFullAt work_schema x.built (Some (limits_on x.built.specs count))
      (empty_state work_schema) (work_script records) answers final → Plays.First answers final
  first_full answers final full = first_of answers (record {
    ran = full.ran;
    later = full.later;
    parts = full.parts;
    final = final;
    runs = full.runs;
  })

  -- the workload has one play, and it ends at no line
  final_once : (a b : List ℕ) (m n : Playing) → Plays.Ends good a m → Plays.Ends good b n → m ≡ n
  final_once a b m n one two =
      (play_once g.schema (start_at (empty_state g.schema)) (script_lines (work_script records))
      a b m n good good one two).1

  never_stopped : (a b : List ℕ) (m n : Playing) (number : ℕ) (why : LineWhy)
      → Plays.Ends good a m → Plays.Ends (stopped number why) b n → ⊥
  never_stopped a b m n number why one two =
      never (play_once g.schema (start_at (empty_state g.schema))
      (script_lines (work_script records)) a b m n good (stopped number why) one two).2
    where
      never : ◌≡◌ {A = End} good (stopped number why) → ⊥
      never e = cc

  -- ---- what is left

  settled_first : (blocks : List (List ℕ)) → LeavesFirst x records blocks
      → HoldsFirst g Plays (SettleState g) blocks
  settled_first blocks (inl none) =
      inl (under_given g x of (λ t e ks. IsNoneOrEmpty t e ks blocks) none)
  settled_first blocks (inr first) = inr (
    first.answers,
    first.first.final,
    first_of first.answers first.first,
    settle_given g x of first.holds.0 first.first.final.kept blocks first.holds.1 first.holds.2,
  )

  held_first : (start : Moment) (image : Image) → IsWorkingImage x records start image
      → HoldsFirst g Plays (HoldState g) image.blocks
  held_first start image w = elim w.is [
    | inl none ↦ inl (under_given g x of (λ t e ks. IsNoneOrEmpty t e ks image.blocks) none)
    | inr first ↦ inr (
      first.answers,
      first.first.final,
      first_of first.answers first.first,
      hold_given g x of first.holds.0 first.first.final.kept image.blocks first.holds.1
          first.holds.2,
    )
  ]

  -- each image of a device that is settled with a state holds it, where they are all opened alike
  held_each : (mid : Content) (s : State) → EachReopens x mid → IsSettledOf x mid.now.blocks s
      → EachImage (λ image. HoldState g s image.blocks) mid.now
  held_each mid s (maps, each) (own, settled, internal) image is =
      let reads = each (record { blocks = mid.now.blocks; said = mid.now.said; shelf = mid.now.shelf })
      (record { said = refl; shelf = refl; count = refl; same = λ n below firm. refl }) in
      let home = settled_reopens x.schema_text x.equation_text x.built.specs own mid.now.blocks
      settled in
      let same : maps ≡ own = sym reads.leaves.maps_are ∙ home.leaves.maps_are in
      hold_given g x of own s image.blocks
      (subst (λ (m : List LeafMap). Reopens x.schema_text x.equation_text x.built.specs m
      image.blocks) same (each image is)) internal

-- ---- the line

-- a front of the line of want of memory, or of a full device, isn't a summary
no_summary : (n records : ℕ) (m : Playing) → ◌≡◌ {A = List ℕ} (take n []) (work_text records m) → ⊥
no_summary zero records m is =
    let first : 0 ≡ 119 = ap (λ (l : List ℕ). get_or l 0 0) is in absurd (omega (arith, first))
no_summary (suc n) records m is =
    let first : 0 ≡ 119 = ap (λ (l : List ℕ). get_or l 0 0) is in absurd (omega (arith, first))

memory_no_summary : (n records : ℕ) (m : Playing) → take n memory_line ≡ work_text records m → ⊥
memory_no_summary zero records m is =
    let first : 0 ≡ 119 = ap (λ (l : List ℕ). get_or l 0 0) is in absurd (omega (arith, first))
memory_no_summary (suc n) records m is =
    let first : 115 ≡ 119 = ap (λ (l : List ℕ). get_or l 0 0) is in absurd (omega (arith, first))

full_no_summary : (n records : ℕ) (m : Playing) → take n full_line ≡ work_text records m → ⊥
full_no_summary zero records m is =
    let first : 0 ≡ 119 = ap (λ (l : List ℕ). get_or l 0 0) is in absurd (omega (arith, first))
full_no_summary (suc n) records m is =
    let first : 115 ≡ 119 = ap (λ (l : List ℕ). get_or l 0 0) is in absurd (omega (arith, first))

-- ---- it is made

module _ (g : Given) (x : Stored) (of : IsStoredAs g x) (is_work : x.schema ≡ work_schema)
    (device : List ℕ) (count records : ℕ) (old mid new : Content) (devices : SameDevices mid new)
  where
    abbrev Play1 : Play Playing
    Play1 = Plays g x of is_work count records

    -- how it ended, where the device can be had
    abbrev pub PlayedFull : Type 0
    PlayedFull = IsNewDevice x device count old mid
        (λ after. IsPlayedOn x count records after (Err ending.Full))

    abbrev pub LeftFirst : Type 0
    LeftFirst = (blocks : List (List ℕ)) → device_at mid.now device ≡ Some blocks
        → LeavesFirst x records blocks

    abbrev pub Ways : Ending → Type 0
    Ways e = ((e ≡ ending.Full) × PlayedFull) ⊎ ((e ≡ ending.NoMemory) × LeftFirst)
        ⊎ (e ≡ ending.Fault)

    pub work_ways : (e : Ending) → IsSize g.typing.specs count → device_at old.now device ≡ None
        → IsWorking x device count records old mid (Err e) → Ways e
    work_ways ending.Full size free is = inl (refl, is)
    work_ways ending.NoMemory size free is = inr (inl (refl, is free))
    work_ways ending.Fault size free is = inr (inr refl)
    work_ways (ending.Device why) size free is =
        absurd (not_both x.built.specs device count old why
        (subst (λ (ks : List LeafSpec). IsSize ks count) (sym of.specs) size) free is.0)
    work_ways ending.Words size free is = absurd is
    work_ways (ending.Missing name) size free is = absurd is
    work_ways (ending.TooLong name) size free is = absurd is
    work_ways (ending.Schema line why) size free is = absurd is
    work_ways (ending.Equation line why) size free is = absurd is
    work_ways (ending.Type line why) size free is = absurd is
    work_ways ending.TextsTooLong size free is = absurd is
    work_ways (ending.Accepted summary) size free is = absurd is
    work_ways (ending.Line number why) size free is = absurd is
    work_ways (ending.Made blocks pages) size free is = absurd is

    -- ---- what is said

    worked_on : (P : List (List ℕ) → Type 0) (made : IsNewDevice x device count old mid P) (s : _)
        → IsSettledOf x made.left.0 s → IsWorkedOn g device count s new
    worked_on P made s settled = (
      made.left.0,
      devices_same mid new devices device ∙ made.left.1,
      (settle_given g x of settled.0 s made.left.0 settled.1 settled.2, made.many),
    )

    done_says : (line : List ℕ)
        → IsNewDevice x device count old mid (λ after. IsPlayedOn x count records after (Ok line))
        → WorkSays g device count records status.Done [] line new
    unfolding worked_on
    done_says line made =
        let out = made.left.2 in (
          out.answers,
          out.final,
          ends_of g x of is_work count records out.answers out.final out.play,
          (refl, out.line_is),
          worked_on (λ after. IsPlayedOn x count records after (Ok line)) made out.final.kept out.holds,
        )

    full_says : PlayedFull → WorkSays g device count records status.Full [] full_line new
    full_says made =
        let out = made.left.2 in (
          out.answers,
          out.final,
          full_of g x of is_work count records out.answers out.final out.full,
          (refl, refl),
          worked_on (λ after. IsPlayedOn x count records after (Err ending.Full)) made out.final.kept
              out.holds,
        )

    -- first lines were played where the device was full
    full_first : PlayedFull → (blocks : List (List ℕ)) → device_at mid.now device ≡ Some blocks
        → HoldsFirst g Play1 (SettleState g) blocks
    full_first made blocks there =
        let out = made.left.2 in
        subst (HoldsFirst g Play1 (SettleState g))
        (same_Some made.left.0 blocks (sym made.left.1 ∙ there)) (inr (
          out.answers,
          out.final,
          first_full g x of is_work count records out.answers out.final out.full,
          settle_given g x of out.holds.0 out.final.kept made.left.0 out.holds.1 out.holds.2,
        ))

    memory_says : ((blocks : List (List ℕ)) → device_at mid.now device ≡ Some blocks
        → HoldsFirst g Play1 (SettleState g) blocks)
        → WorkSays g device count records status.Memory [] memory_line new
    memory_says left =
        ((refl, refl), λ blocks there. left blocks (sym (devices_same mid new devices device) ∙ there))

    abbrev Kept : Status → Type 0
    Kept = IsSaid (works_on g device count records old) old new

    fault_said : (s : Status) → s ≡ status.Outside → new.now.said ≡ old.now.said → Kept s
    fault_said s is same =
        subst Kept (sym is) (inr (record {
          told = [];
          breaks = refl;
          said = same ∙ sym (append-nil old.now.said);
        }))

    module _ (before : mid.now.said ≡ old.now.said) where
      err_said : (e : Ending) (s : Status) → Ways e → IsEnded e mid new s → Kept s
      err_said e s (inl (is, made)) ended =
          ended_said (works_on g device count records old) old mid new before
          (memory_says (full_first made)) e
          (inr (subst (λ (w : Ending). WorkSays g device count records (status_of w) []
          (ending_line w) new) (sym is) (full_says made))) s ended
      err_said e s (inr (inl (is, left))) ended =
          let memory = memory_says
          (λ blocks there. settled_first g x of is_work count records blocks (left blocks there)) in
          ended_said (works_on g device count records old) old mid new before memory e
          (inr (subst (λ (w : Ending). WorkSays g device count records (status_of w) []
          (ending_line w) new) (sym is) memory)) s ended
      err_said e s (inr (inr is)) ended =
          fault_said s (ended.due.fault is) (ended.words.silent is ∙ before)

      ok_said : (line : List ℕ) (s : Status)
          → IsNewDevice x device count old mid (λ after. IsPlayedOn x count records after (Ok line))
          → IsTold (Ok line) mid new s → Kept s
      ok_said line s made (inl (is, said)) = subst Kept (sym is) (record {
        whole = [];
        last = line;
        says = done_says line made;
        said = said ∙ ap (λ (t : List ℕ). t ++ line) before;
      })
      ok_said line s made (inr (is, (n, said))) = subst Kept (sym is) (inl (record {
        meant = status.Done;
        whole = [];
        last = line;
        says = done_says line made;
        count = n;
        said = said ∙ ap (λ (t : List ℕ). t ++ take n line) before;
      }))

    -- ---- the status that is due

    err_due : (e : Ending) (s : Status) → Ways e → IsEnded e mid new s → (d : Status)
        → IsDueOf Play1 d → s ≢ status.Outside → (s ≡ d) ⊎ (s ≡ status.Memory)
    err_due e s (inl (is, made)) ended d due outside =
        absurd (not_roomy d due)
      where
        full : Play1.Full made.left.2.answers made.left.2.final
        full = full_of g x of is_work count records made.left.2.answers made.left.2.final
            made.left.2.full

        not_roomy : (d : Status) → IsDueOf Play1 d → ⊥
        not_roomy status.Done due = due.0 made.left.2.answers made.left.2.final full
        not_roomy status.Script due = due.0 made.left.2.answers made.left.2.final full
        not_roomy status.Refused due = due
        not_roomy status.Full due = due
        not_roomy status.Device due = due
        not_roomy status.Memory due = due
        not_roomy status.Outside due = due
    err_due e s (inr (inl (is, left))) ended d due outside =
        ended_due e mid new s ended d (inr (inr is)) outside
    err_due e s (inr (inr is)) ended d due outside =
        ended_due e mid new s ended d (inr (inl is)) outside

    ok_due : (line : List ℕ) (s : Status)
        → IsNewDevice x device count old mid (λ after. IsPlayedOn x count records after (Ok line))
        → IsTold (Ok line) mid new s → (d : Status) → IsDueOf Play1 d → s ≢ status.Outside
        → (s ≡ d) ⊎ (s ≡ status.Memory)
    ok_due line s made (inr (is, (n, said))) d due outside = absurd (outside is)
    ok_due line s made (inl (is, said)) d due outside = by_due d due
      where
        ends : Play1.Ends good made.left.2.answers made.left.2.final
        ends = ends_of g x of is_work count records made.left.2.answers made.left.2.final
            made.left.2.play

        by_due : (d : Status) → IsDueOf Play1 d → (s ≡ d) ⊎ (s ≡ status.Memory)
        by_due status.Done due = inl is
        by_due status.Script (roomy, number, why, answers, m, other) =
            absurd (never_stopped g x of is_work count records made.left.2.answers answers
            made.left.2.final m number why ends other)
        by_due status.Refused due = absurd due
        by_due status.Full due = absurd due
        by_due status.Device due = absurd due
        by_due status.Memory due = absurd due
        by_due status.Outside due = absurd due

    -- ---- what is left, and what a crash leaves

    left_first : Unattached old mid ⊎ WorksThrough x device count records old mid
        → device_at old.now device ≡ None → (blocks : List (List ℕ))
        → device_at new.now device ≡ Some blocks → HoldsFirst g Play1 (HoldState g) blocks
    left_first (inl still) free blocks there =
        absurd (let wrong : ◌≡◌ {A = Option (List (List ℕ))} (Some blocks) None = sym there
        ∙ devices_same mid new devices device ∙ ap (λ (m : Moment). device_at m device) still.now
        ∙ free in cc)
    left_first (inr w) free blocks there =
        subst (HoldsFirst g Play1 (HoldState g))
        (same_Some mid.now.blocks blocks (sym (named_at mid.now device w.named)
        ∙ sym (devices_same mid new devices device) ∙ there))
        (held_first g x of is_work count records w.middle.now
        (record { blocks = mid.now.blocks; said = mid.now.said; shelf = mid.now.shelf })
        (reads_now (IsWorkingImage x records w.middle.now) w.middle mid w.images))

    module _ (w : WorksThrough x device count records old mid) (before : mid.now.said ≡ old.now.said)
      where
        abbrev Left : Image → Type 0
        Left = IsLeftOf (IsWorkImage g count records old) w.middle

        abbrev Work : Image → Type 0
        Work = IsWorkingImage x records w.middle.now

        -- while it is made and played on
        work_image : (image : Image) → Work image → Left image
        work_image image is = record {
          is = record {
            is = held_first g x of is_work count records w.middle.now image is;
            done = λ answers m ends said. absurd (no_summary 0 records m
                (append_cancel_left old.now.said [] (work_text records m)
                (append-nil old.now.said ∙ sym (is.said ∙ w.attached.rest.said) ∙ said)));
          };
          shelf = is.shelf;
        }

        -- while its line is said
        line_image : (image : Image) (text : List ℕ)
            → IsImage mid.now (record image { said = mid.now.said })
            → image.said ≡ mid.now.said ++ text
            → ((answers : List ℕ) (m : Playing) → Play1.Ends good answers m → text ≡ work_text records m
            → HoldState g m.kept image.blocks) → Left image
        line_image image text is said held =
            let work = w.images.now (record image { said = mid.now.said }) is in
            record {
              is = record {
                is = held_first g x of is_work count records w.middle.now
                    (record image { said = mid.now.said }) work;
                done = λ answers m ends all. held answers m ends
                    (append_cancel_left old.now.said text (work_text records m)
                    (ap (λ (t : List ℕ). t ++ text) (sym before) ∙ sym said ∙ all));
              };
              shelf = work.shelf;
            }

        -- the summary is that of what is held
        final_held : (line : List ℕ)
            → IsNewDevice x device count old mid (λ after. IsPlayedOn x count records after (Ok line))
            → EachReopens x mid → (image : Image)
            → IsImage mid.now (record image { said = mid.now.said }) → (answers : List ℕ) (m : Playing)
            → Play1.Ends good answers m → HoldState g m.kept image.blocks
        final_held line made each image is answers m ends =
            let out = made.left.2 in
            let here : made.left.0 ≡ mid.now.blocks =
            same_Some made.left.0 mid.now.blocks (sym made.left.1 ∙ named_at mid.now device w.named) in
            let final : out.final ≡ m =
            final_once g x of is_work count records out.answers answers out.final m
            (ends_of g x of is_work count records out.answers out.final out.play) ends in
            subst (λ (q : Playing). HoldState g q.kept image.blocks) final
            (held_each g x of is_work count records mid out.final.kept each
            (subst (λ (bs : List (List ℕ)). IsSettledOf x bs out.final.kept) here out.holds)
            (record image { said = mid.now.said }) is)

        ok_leaves : (line : List ℕ)
            → IsNewDevice x device count old mid (λ after. IsPlayedOn x count records after (Ok line))
            → EachReopens x mid → TellsThrough (Ok line) mid new → LeavesOnly Left mid new
        ok_leaves line made each through =
            says_leaves Left line mid new through
            (λ image n is said. line_image image (take n line) is said
            (λ answers m ends text. final_held line made each image is answers m ends))

        err_leaves : (e : Ending) → Ways e → EndsThrough e mid new → LeavesOnly Left mid new
        err_leaves e ways through =
            ends_leaves Left e mid new through
            (λ image n is said. line_image image (take n (ending_line e)) is said
            (λ answers m ends text. absurd (no_line ways n m text)))
            (λ other image n is said. line_image image (take n memory_line) is said
            (λ answers m ends text. absurd (memory_no_summary n records m text)))
          where
            no_line : Ways e → (n : ℕ) (m : Playing) → take n (ending_line e) ≡ work_text records m → ⊥
            no_line (inl (is, made)) n m text = full_no_summary n records m
                (sym (ap (λ (v : Ending). take n (ending_line v)) is) ∙ text)
            no_line (inr (inl (is, left))) n m text = memory_no_summary n records m
                (sym (ap (λ (v : Ending). take n (ending_line v)) is) ∙ text)
            no_line (inr (inr is)) n m text = no_summary n records m
                (sym (ap (λ (v : Ending). take n (ending_line v)) is) ∙ text)

        crash_of : LeavesOnly Left mid new
            → CrashesOn device (IsWorkImage g count records old) old new
        crash_of saying =
            attached_crashes device (IsWorkImage g count records old) old w.middle new w.attached
            (λ blocks there. absurd (none_there blocks (sym w.free ∙ there)))
            (inl (inl w.none_pending))
            (leaves_both Left w.middle mid new
            (leaves_weaker Work Left work_image w.middle mid w.images) saying)

    -- ---- the promise

    module _ (attaches : Attaches device old mid) (free : device_at old.now device ≡ None)
        (through : Unattached old mid ⊎ WorksThrough x device count records old mid) where
      work_leaves : (script : new.script ≡ mid.script)
          → (works_on g device count records old).Leaves new status.Done
      work_leaves script = (
        script ∙ attaches.script,
        left_first through free,
      )

      -- a device that was made isn't there where nothing changed
      not_new : Unattached old mid → (P : List (List ℕ) → Type 0)
          → IsNewDevice x device count old mid P → ⊥
      not_new still P made =
          none_there made.left.0
          (sym made.free ∙ ap (λ (m : Moment). device_at m device) (sym still.now) ∙ made.left.1)

      still_crash : Unattached old mid → (e : Ending) → EndsThrough e mid new → Ways e
          → CrashesOn device (IsWorkImage g count records old) old new
      still_crash still e saying (inl (is, made)) =
          absurd (not_new still (λ after. IsPlayedOn x count records after (Err ending.Full)) made)
      still_crash still e saying (inr (inl (is, left))) =
          inl (unattached_idle old mid new still
          (ends_idle e (inr (inl (ap ending_line is))) mid new saying))
      still_crash still e saying (inr (inr is)) =
          inl (unattached_idle old mid new still
          (ends_idle e (inl (ap ending_line is)) mid new saying))

      ok_kept : (line : List ℕ) (s : Status)
          → IsNewDevice x device count old mid (λ after. IsPlayedOn x count records after (Ok line))
          → EachReopens x mid → IsTold (Ok line) mid new s → new.script ≡ mid.script
          → TellsThrough (Ok line) mid new → IsKept (works_on g device count records old) old new s
      ok_kept line s made each told script saying = record {
        said = ok_said attaches.said line s made told;
        due = λ d due outside. ok_due line s made told d due outside;
        leaves = work_leaves script;
        crashes = elim through [
          | inl still ↦ absurd (not_new still (λ after. IsPlayedOn x count records after (Ok line)) made)
          | inr w ↦ crash_of w attaches.said (ok_leaves w attaches.said line made each saying)
        ];
      }

      err_kept : (e : Ending) (s : Status) → Ways e → IsEnded e mid new s → new.script ≡ mid.script
          → EndsThrough e mid new → IsKept (works_on g device count records old) old new s
      err_kept e s ways ended script saying = record {
        said = err_said attaches.said e s ways ended;
        due = λ d due outside. err_due e s ways ended d due outside;
        leaves = work_leaves script;
        crashes = elim through [
          | inl still ↦ still_crash still e saying ways
          | inr w ↦ crash_of w attaches.said (err_leaves w attaches.said e ways saying)
        ];
      }

    -- ---- it can't be had

    module _ (why : DeviceWhy) (un : IsUnmakable g.typing.specs device count old why) where
      un_stored : IsUnmakable x.built.specs device count old why
      un_stored =
          subst (λ (ks : List LeafSpec). IsUnmakable ks device count old why) (sym of.specs) un

      never_new : (P : List (List ℕ) → Type 0) → IsNewDevice x device count old mid P → ⊥
      never_new P made = not_both x.built.specs device count old why made.size made.free un_stored

      unworked_still : Unattached old mid ⊎ WorksThrough x device count records old mid
          → Unattached old mid
      unworked_still (inl still) = still
      unworked_still (inr w) =
          absurd (not_both x.built.specs device count old why w.fits w.free un_stored)

      -- there is one reason at most
      one_why : (a b : DeviceWhy) → IsUnmakable x.built.specs device count old a
          → IsUnmakable x.built.specs device count old b → a ≡ b
      one_why device_why.Exists device_why.Exists one two = refl
      one_why device_why.Exists device_why.Size one two = absurd (two one.0)
      one_why device_why.Size device_why.Exists one two = absurd (one two.0)
      one_why device_why.Size device_why.Size one two = refl
      one_why device_why.Missing other one two = absurd one
      one_why device_why.NoDatabase other one two = absurd one
      one_why (device_why.OtherEquation place) other one two = absurd one
      one_why (device_why.Damaged block) other one two = absurd one
      one_why device_why.Exists device_why.Missing one two = absurd two
      one_why device_why.Exists device_why.NoDatabase one two = absurd two
      one_why device_why.Exists (device_why.OtherEquation place) one two = absurd two
      one_why device_why.Exists (device_why.Damaged block) one two = absurd two
      one_why device_why.Size device_why.Missing one two = absurd two
      one_why device_why.Size device_why.NoDatabase one two = absurd two
      one_why device_why.Size (device_why.OtherEquation place) one two = absurd two
      one_why device_why.Size (device_why.Damaged block) one two = absurd two

      unworked_ways : (e : Ending) → IsWorking x device count records old mid (Err e)
          → (e ≡ ending.Device why) ⊎ (e ≡ ending.Fault) ⊎ (e ≡ ending.NoMemory)
      unworked_ways (ending.Device other) is =
          inl (ap (λ (w : DeviceWhy). ending.Device w) (one_why other why is.0 un_stored))
      unworked_ways ending.Fault is = inr (inl refl)
      unworked_ways ending.NoMemory is = inr (inr refl)
      unworked_ways ending.Full is =
          absurd (never_new (λ after. IsPlayedOn x count records after (Err ending.Full)) is)
      unworked_ways ending.Words is = absurd is
      unworked_ways (ending.Missing name) is = absurd is
      unworked_ways (ending.TooLong name) is = absurd is
      unworked_ways (ending.Schema line why) is = absurd is
      unworked_ways (ending.Equation line why) is = absurd is
      unworked_ways (ending.Type line why) is = absurd is
      unworked_ways ending.TextsTooLong is = absurd is
      unworked_ways (ending.Accepted summary) is = absurd is
      unworked_ways (ending.Line number why) is = absurd is
      unworked_ways (ending.Made blocks pages) is = absurd is

      pub none_kept : (r : Result (List ℕ) Ending) (s : Status) → Attaches device old mid
          → Unattached old mid ⊎ WorksThrough x device count records old mid
          → IsWorking x device count records old mid r → IsTold r mid new s → TellsThrough r mid new
          → IsKept (makes_none why device old) old new s
      none_kept (Ok line) s attaches through is told saying =
          absurd (never_new (λ after. IsPlayedOn x count records after (Ok line)) is)
      none_kept (Err e) s attaches through is told saying =
          unmade_kept g.typing.specs device count old mid why un new s e (unworked_still through)
          attaches.script told devices saying (unworked_ways e is)

    -- ---- the request

    pub work_kept : (r : Result (List ℕ) Ending) (s : Status) → Attaches device old mid
        → Unattached old mid ⊎ WorksThrough x device count records old mid
        → IsWorking x device count records old mid r → OnOk r (EachReopens x mid)
        → IsTold r mid new s → new.script ≡ mid.script → TellsThrough r mid new
        → WorksOn g device count records old new s
    work_kept r s attaches through is each told script saying = record {
      unmakable = λ why un. none_kept why un r s attaches through is told saying;
      makable = λ size free. makable r size free is each told saying;
    }
      where
        makable : (q : Result (List ℕ) Ending) → IsSize g.typing.specs count
            → device_at old.now device ≡ None → IsWorking x device count records old mid q
            → OnOk q (EachReopens x mid) → IsTold q mid new s → TellsThrough q mid new
            → IsKept (works_on g device count records old) old new s
        makable (Ok line) size free is each told saying =
            ok_kept attaches free through line s is each told script saying
        makable (Err e) size free is each told saying =
            err_kept attaches free through e s (work_ways e size free is) told script saying
