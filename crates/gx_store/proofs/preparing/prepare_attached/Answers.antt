use Rattle.std.proofs.Common.{◌∙◌, ℕ, List, [], get_or, drop, length, replicate, refl, sym, ap, subst, arith}
use Rattle.std.specs.FinMap.{empty}
use Rattle.std.proofs.lemmas.Result.{IfErr-weaker, IfOk-weaker}
use Rattle.gx_device.specs.Content.{block_of}
use Rattle.gx_device.specs.Crash.{EachImage}
use Rattle.gx_device.proofs.RunLemmas.{joined}
use Rattle.gx_store.specs.Causes.{no_journal}
use Rattle.gx_store.specs.Crashes.{HasNoMagic}
use Rattle.gx_store.specs.Making.{IsPrepared, IsUnmadeOn}
use Rattle.gx_store.specs.Opened.{IsAdopted}
use Rattle.gx_layout.specs.Layout.{pages_of}
use Rattle.gx_store.specs.Device.{IsSize}
use Rattle.gx_store.specs.Store.{HoldsMaps, machine_left}
use Rattle.gx_layout.specs.Head.{HasMagic}
use Rattle.gx_layout.proofs.BlockLemmas.{silent_twice}
use Rattle.gx_journal.specs.Journal.{content_of, size_of}
use Rattle.gx_journal.specs.Opening.{IsDeviceSize}
use Rattle.gx_ports.specs.Sheets.{Ground}
use Rattle.gx_store.proofs.CauseLemmas.{counted_after}
use Rattle.gx_store.proofs.HeldLemmas.{if_ok_both}
use Rattle.gx_store.proofs.MadeLemmas.{none_before, rests_none, besides_none}
use Rattle.gx_store.proofs.MakeLemmas.{unlaid_by, unlaid_on}
use Rattle.gx_store.proofs.SettledLemmas.{sized_device, rooms}
use Rattle.gx_store.proofs.preparing.prepare_attached.Goals as goal

pub returns-in-Ok-clause-prepared : goal.returns-in-Ok-clause-prepared
returns-in-Ok-clause-prepared g c = λ told none.
    let j = c.in-Ok.journal in
    let laid = c.in-Ok.ensures.laid_out in
    let head = laid.head told in
    if_ok_both c.prepare_over.result
    (λ s. HoldsMaps (replicate (length c.args.specs.now) empty) s)
    (λ s. IsAdopted c.args.specs.now j s)
    (λ s. IsPrepared c.args.schema.now c.args.equation.now c.args.specs.now s)
    (λ s holds over. record {
      holds = holds;
      unsealed = record {
        kept = holds.kept;
        was_whole = holds.was_whole;
        head = record {
          no_magic = λ has. none (subst (λ (n : ℕ). HasMagic n
              (block_of (g.M.Device.content c.args.machine).now 0)) c.in-Ok.ensures.opens.blocks
              (subst (λ (h : List (List ℕ)). HasMagic (g.M.Device.size j.device) (get_or h 0 []))
              head (subst (λ (b : Ground). HasMagic b.blocks (get_or b.head 0 [])) over.ground has)));
          texts = ap (λ (b : Ground). drop 1 b.head) over.ground
              ∙ ap (λ (h : List (List ℕ)). drop 1 h) head;
          leaves = over.specs_are;
        };
        calm = over.calm (laid.opened.calm told);
      };
    })
    (c.prepare_over.ensures.holds told laid.opened.steady) c.prepare_over.ensures.over

pub returns-in-Ok-clause-specs : goal.returns-in-Ok-clause-specs
returns-in-Ok-clause-specs g c =
    IfOk-weaker c.prepare_over.result _ _ (λ s over. over.specs_are) c.prepare_over.ensures.over

pub returns-in-Ok-clause-silent : goal.returns-in-Ok-clause-silent
returns-in-Ok-clause-silent g c =
    silent_twice _ (content_of c.in-Ok.journal) _ c.in-Ok.ensures.opens.silent
    c.prepare_over.ensures.silent

pub returns-in-Ok-clause-faults : goal.returns-in-Ok-clause-faults
returns-in-Ok-clause-faults g c =
    counted_after _ _ _ _ (c.in-Ok.ensures.opens.faults.same refl) c.prepare_over.ensures.faults

pub returns-in-Err-clause-unmade : goal.returns-in-Err-clause-unmade
returns-in-Err-clause-unmade g c =
    subst (λ w. IsUnmadeOn c.args.specs.now (g.M.Device.size c.args.machine) w) (sym c.into.ensures)
    (unlaid_on c.args.specs.now (g.M.Device.size c.args.machine) (no_journal c.in-Err.why)
    (unlaid_by c.in-Err.why c.in-Err.ensures.not_laid_out.database))

pub returns-in-Ok-clause-unmade : goal.returns-in-Ok-clause-unmade
returns-in-Ok-clause-unmade g c =
    IfErr-weaker c.prepare_over.result _ _ (λ e is. unlaid_on c.args.specs.now
    (g.M.Device.size c.args.machine) e.1 is) c.prepare_over.ensures.unmade

pub returns-in-Ok-clause-images : goal.returns-in-Ok-clause-images
returns-in-Ok-clause-images g c = λ told firm none.
    let old = g.M.Device.content c.args.machine in
    let j = c.in-Ok.journal in
    let last = g.M.Device.content (machine_left c.prepare_over.result) in
    let head = c.in-Ok.ensures.laid_out.head told in
    let sized = g.met.M.Device.sized c.args.machine told in
    let blocks = c.in-Ok.ensures.opens.blocks in
    let silent = c.in-Ok.ensures.opens.silent in
    let count = sym (g.met.M.Device.sized j.device told) ∙ blocks ∙ sized in
    joined (EachImage (HasNoMagic old.now)) old (content_of j) last
    (besides_none (g.M.Device.size c.args.machine) old (content_of j) firm
    (λ has. none (subst (λ (n : ℕ). HasMagic n (block_of old.now 0)) (sym sized) has))
    c.in-Ok.ensures.images)
    (none_before old.now (content_of j).now count silent.said silent.shelf (content_of j) last
    (c.prepare_over.ensures.images told (c.in-Ok.ensures.laid_out.opened.calm told)
    (λ has. none (subst (λ (n : ℕ). HasMagic n (block_of old.now 0)) blocks
    (subst (λ (h : List (List ℕ)). HasMagic (g.M.Device.size j.device) (get_or h 0 [])) head
    has)))))

pub returns-in-Err-clause-images : goal.returns-in-Err-clause-images
returns-in-Err-clause-images g c = λ told firm none.
    let old = g.M.Device.content c.args.machine in
    besides_none (g.M.Device.size c.args.machine) old (g.M.Device.content c.in-Err.machine) firm
    (λ has. none (subst (λ (n : ℕ). HasMagic n (block_of old.now 0))
    (sym (g.met.M.Device.sized c.args.machine told)) has)) c.in-Err.ensures.images

pub returns-then-not-is_size-clause-images : goal.returns-then-not-is_size-clause-images
returns-then-not-is_size-clause-images g c = λ told firm none.
    let old = g.M.Device.content c.args.machine in
    rests_none old firm
    (λ has. none (subst (λ (n : ℕ). HasMagic n (block_of old.now 0))
    (sym (g.met.M.Device.sized c.args.machine told)) has))

pub format-requires : goal.format-requires
format-requires g c =
    let size = c.is_size.ensures.0 c.if-not-is_size.false in
    let asked = c.blocks-2.ensures.count in
    record {
      frames = record { least = omega arith; most = omega arith };
      blocks = subst (λ (n : ℕ). IsDeviceSize n) asked
          (sized_device c.args.specs.now _ size);
      texts = c.requires.texts;
    }

pub prepare_over-requires : goal.prepare_over-requires
prepare_over-requires g c =
    let j = c.in-Ok.journal in
    let asked = c.blocks-2.ensures.count in
    let blocks = c.in-Ok.ensures.opens.blocks in
    record {
      room = record {
        few = c.requires.few;
        room = rooms c.args.specs.now (g.M.Device.size j.device) (size_of j)
            c.requires.few c.requires.built
            (subst (λ (n : ℕ). IsSize c.args.specs.now n) (asked ∙ sym blocks)
            (c.is_size.ensures.0 c.if-not-is_size.false))
            (c.in-Ok.ensures.laid_out.opened.size ∙ ap pages_of (sym blocks));
        built = c.requires.built;
      };
    }
