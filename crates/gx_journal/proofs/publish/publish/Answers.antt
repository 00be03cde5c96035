use Rattle.std.proofs.Common.{◌≡◌, inl, inr, ◌<◌, ℕ, length, get_or, sym, ◌∙◌, ap, arith, subst}
use Rattle.gx_laws.proofs.ResultLemmas.{on_ok_always}
use Rattle.gx_device.specs.Content.{block_of}
use Rattle.gx_device.specs.Crash.{EachImage}
use Rattle.gx_device.proofs.RunLemmas.{joined}
use Rattle.gx_layout.specs.Besides.{Flushes}
use Rattle.gx_layout.specs.Layout.{Either, IsBitmap, with_pages, most_pages, slot, home}
use Rattle.gx_layout.proofs.BitLemmas.{listed_names}
use Rattle.gx_layout.proofs.CommitLemmas.{left, right}
use Rattle.gx_layout.proofs.FlushLemmas.{bitmap_leaves, bitmap_ready, homes_leave, homes_flushed}
use Rattle.gx_journal.specs.Publishing.{AreCopiedHome}
use Rattle.gx_journal.specs.Sources.{IsHomeOf, IsCommitted}
use Rattle.gx_journal.proofs.CallLemmas.{places_kept}
use Rattle.gx_journal.proofs.DeviceLemmas.{no_ok, touches_failed, touches_joined, touches_more}
use Rattle.gx_journal.proofs.PublishLemmas.{found, home_in, home_moved, homes_hold}
use Rattle.gx_journal.proofs.publish.publish.Goals as goal

pub log-requires-clause-listed : goal.log-requires-clause-listed
log-requires-clause-listed g c i lt =
    omega (arith, c.requires.spilled.named.within i lt, c.requires.places.few)

pub bring_home-requires-clause-listed : goal.bring_home-requires-clause-listed
bring_home-requires-clause-listed g c =
    let N = g.D.Device.size c.args.device.now in
    let listed = c.args.listed.now.items in
    let spilled = c.requires.spilled in
    let long : c.len.result ≡ length c.args.spilled.now.items = c.len.ensures ∙
    c.args.spilled.now.ok.0 in
    let size = c.open_gate.ensures.size ∙ c.log.ensures.flushes.touches.size in
    record {
      count = spilled.count ∙ sym long;
      below = λ i lt. subst (λ (n : ℕ). get_or listed i 0 < n) (sym long)
          (spilled.named.within i lt);
      slots = λ i lt told r is.
          let p = get_or listed i 0 in
          spilled.slots p (spilled.named.flagged i lt) told r is
          ∙ sym (c.open_gate.ensures.rest.blocks (slot N p)
          (λ (e : slot N p ≡ 1). absurd (omega (arith, e)))
          ∙ c.log.ensures.flushes.touches.rest.blocks (slot N p)
          (λ (e : IsBitmap N (slot N p)). absurd (omega (arith, e.1))))
          ∙ ap (λ (n : ℕ). block_of (g.D.Device.content c.open_gate.new.device).now (slot n p))
          (sym size);
    }

pub bring_home-requires-clause-places : goal.bring_home-requires-clause-places
bring_home-requires-clause-places g c =
    places_kept g.D.Device c.args.device.now c.open_gate.new.device
    (length c.args.spilled.now.items) c.len.result (c.len.ensures ∙ c.args.spilled.now.ok.0)
    (c.open_gate.ensures.size ∙ c.log.ensures.flushes.touches.size) c.requires.places

pub returns-in_err-log-clause-touches : goal.returns-in_err-log-clause-touches
returns-in_err-log-clause-touches g c =
    touches_failed g.D.Device c.from_residual.result c.from_residual.ensures.0
    (touches_more g.D.Device (IsBitmap (g.D.Device.size c.args.device.now)) _
    (λ n is. inr (inl is)) c.in_err-log.ensures.flushes.touches)

pub returns-in_err-open_gate-clause-touches : goal.returns-in_err-open_gate-clause-touches
returns-in_err-open_gate-clause-touches g c =
    let N = g.D.Device.size c.args.device.now in
    let free = IsCommitted N (length c.args.spilled.now.items) c.args.listed.now.items in
    touches_failed g.D.Device c.from_residual-in_err-open_gate.result
    c.from_residual-in_err-open_gate.ensures.0 (touches_joined g.D.Device
    (touches_more g.D.Device (IsBitmap N) free (λ n is. inr (inl is))
    c.in_ok-log.ensures.flushes.touches)
    (touches_more g.D.Device (λ n. n ≡ 1) free (λ n is. inl is) (record {
      rest = c.open_gate.ensures.rest;
      size = c.open_gate.ensures.size;
      faults = c.in_err-open_gate.ensures.faults;
    })))

pub returns-in_err-bring_home-clause-touches : goal.returns-in_err-bring_home-clause-touches
returns-in_err-bring_home-clause-touches g c =
    let N = g.D.Device.size c.args.device.now in
    let M = g.D.Device.size c.open_gate.new.device in
    let listed = c.args.listed.now.items in
    let P = length c.args.spilled.now.items in
    let free = IsCommitted N P listed in
    let long : c.len.result ≡ P = c.len.ensures ∙ c.args.spilled.now.ok.0 in
    let size : M ≡ N = c.open_gate.ensures.size ∙ c.log.ensures.flushes.touches.size in
    touches_failed g.D.Device c.from_residual-in_err-bring_home.result
    c.from_residual-in_err-bring_home.ensures.0 (touches_joined g.D.Device
    (touches_joined g.D.Device
    (touches_more g.D.Device (IsBitmap N) free (λ n is. inr (inl is))
    c.in_ok-log.ensures.flushes.touches)
    (touches_more g.D.Device (λ n. n ≡ 1) free (λ n is. inl is) (record {
      rest = c.open_gate.ensures.rest;
      size = c.open_gate.ensures.size;
      faults = c.in_ok-open_gate.ensures.faults;
    })))
    (touches_more g.D.Device (IsHomeOf M c.len.result listed) free
    (λ n is. inr (inr (home_moved M N c.len.result P listed n size long is)))
    c.in_err-bring_home.ensures.flushes.touches))

pub returns-clause-touches : goal.returns-clause-touches
returns-clause-touches g c =
    let N = g.D.Device.size c.args.device.now in
    let M = g.D.Device.size c.open_gate.new.device in
    let listed = c.args.listed.now.items in
    let P = length c.args.spilled.now.items in
    let free = IsCommitted N P listed in
    let long : c.len.result ≡ P = c.len.ensures ∙ c.args.spilled.now.ok.0 in
    let size : M ≡ N = c.open_gate.ensures.size ∙ c.log.ensures.flushes.touches.size in
    touches_joined g.D.Device (touches_joined g.D.Device (touches_joined g.D.Device
    (touches_more g.D.Device (IsBitmap N) free (λ n is. inr (inl is))
    c.in_ok-log.ensures.flushes.touches)
    (touches_more g.D.Device (λ n. n ≡ 1) free (λ n is. inl is) (record {
      rest = c.open_gate.ensures.rest;
      size = c.open_gate.ensures.size;
      faults = c.in_ok-open_gate.ensures.faults;
    })))
    (touches_more g.D.Device (IsHomeOf M c.len.result listed) free
    (λ n is. inr (inr (home_moved M N c.len.result P listed n size long is)))
    c.in_ok-bring_home.ensures.flushes.touches))
    (touches_more g.D.Device (λ n. n ≡ 1) free (λ n is. inl is) (record {
      rest = c.close_gate.ensures.rest;
      size = c.close_gate.ensures.size;
      faults = c.close_gate.ensures.faults;
    }))

pub returns-clause-homes : goal.returns-clause-homes
returns-clause-homes g c told =
    let content = g.D.Device.content in
    let N = g.D.Device.size c.args.device.now in
    let listed = c.args.listed.now.items in
    let P = length c.args.spilled.now.items in
    let gate = (content c.open_gate.new.device).now in
    let brought = (content c.bring_home.new.device).now in
    let long : c.len.result ≡ P = c.len.ensures ∙ c.args.spilled.now.ok.0 in
    let size = c.open_gate.ensures.size ∙ c.log.ensures.flushes.touches.size in
    let copied : AreCopiedHome N P listed gate brought =
    subst (λ (k : ℕ). AreCopiedHome N k listed gate brought) long
    (subst (λ (n : ℕ). AreCopiedHome n c.len.result listed gate brought) size
    (c.in_ok-bring_home.ensures.homes told)) in
    on_ok_always c.close_gate.result (λ p on.
    let f = found listed p (c.requires.spilled.named.every p on) in
    c.close_gate.ensures.rest.blocks (home N P p)
    (λ (e : home N P p ≡ 1). absurd (omega (arith, e)))
    ∙ subst (λ (q : ℕ). block_of brought (home N P q) ≡ block_of gate (slot N q)) f.is
    (copied f.place f.below)
    ∙ c.open_gate.ensures.rest.blocks (slot N p)
    (λ (e : slot N p ≡ 1). absurd (omega (arith, e)))
    ∙ c.log.ensures.flushes.touches.rest.blocks (slot N p)
    (λ (e : IsBitmap N (slot N p)). absurd (omega (arith, e.1))))

pub returns-in_err-log-clause-replaces : goal.returns-in_err-log-clause-replaces
returns-in_err-log-clause-replaces g c told kept pages prepared =
    let a = g.D.Device.content c.args.device.now in
    let b = g.D.Device.content c.log.new.device in
    let size = g.met.D.Device.sized c.args.device.now told ∙ prepared.rest.fits.size in
    let run = subst (λ (n : ℕ). Flushes (IsBitmap n) a b) size c.log.ensures.flushes.run in
    record {
      images = left kept (with_pages kept pages) a b (bitmap_leaves kept a b prepared.rest run);
      at_rest = no_ok _ c.from_residual.result c.from_residual.ensures.0;
    }

pub returns-in_err-open_gate-clause-replaces : goal.returns-in_err-open_gate-clause-replaces
returns-in_err-open_gate-clause-replaces g c told kept pages prepared =
    let content = g.D.Device.content in
    let N = g.D.Device.size c.args.device.now in
    let flags = c.args.spilled.now.items in
    let listed = c.args.listed.now.items in
    let named = c.requires.spilled.named in
    let new = with_pages kept pages in
    let a = content c.args.device.now in
    let b = content c.log.new.device in
    let d = content c.open_gate.new.device in
    let log = c.in_ok-log.ensures in
    let at = g.met.D.Device.sized c.args.device.now told ∙ prepared.rest.fits.size in
    let run = subst (λ (n : ℕ). Flushes (IsBitmap n) a b) at log.flushes.run in
    let ready = bitmap_ready kept a b prepared.rest run pages flags prepared.kept_count
    prepared.count prepared.same prepared.slots (log.flushes.none_pending told)
    (λ p below. listed_names flags listed b.now.blocks (most_pages N) (log.named told)
    named.flagged (λ q on none. named.every q on (λ j low lt e. none j lt e)) p
    (omega (arith, below, c.requires.places.few))) in
    let logged = left kept new a b (bitmap_leaves kept a b prepared.rest run) in
    record {
      images = joined (EachImage (Either kept new)) a b d logged
          (c.open_gate.ensures.images told kept new flags ready);
      at_rest = no_ok _ c.from_residual-in_err-open_gate.result
          c.from_residual-in_err-open_gate.ensures.0;
    }

pub returns-in_err-bring_home-clause-replaces : goal.returns-in_err-bring_home-clause-replaces
returns-in_err-bring_home-clause-replaces g c told kept pages prepared =
    let content = g.D.Device.content in
    let N = g.D.Device.size c.args.device.now in
    let flags = c.args.spilled.now.items in
    let listed = c.args.listed.now.items in
    let named = c.requires.spilled.named in
    let new = with_pages kept pages in
    let a = content c.args.device.now in
    let b = content c.log.new.device in
    let d = content c.open_gate.new.device in
    let log = c.in_ok-log.ensures in
    let at = g.met.D.Device.sized c.args.device.now told ∙ prepared.rest.fits.size in
    let run = subst (λ (n : ℕ). Flushes (IsBitmap n) a b) at log.flushes.run in
    let ready = bitmap_ready kept a b prepared.rest run pages flags prepared.kept_count
    prepared.count prepared.same prepared.slots (log.flushes.none_pending told)
    (λ p below. listed_names flags listed b.now.blocks (most_pages N) (log.named told)
    named.flagged (λ q on none. named.every q on (λ j low lt e. none j lt e)) p
    (omega (arith, below, c.requires.places.few))) in
    let logged = left kept new a b (bitmap_leaves kept a b prepared.rest run) in
    let M = g.D.Device.size c.open_gate.new.device in
    let e = content c.bring_home.new.device in
    let opening = joined (EachImage (Either kept new)) a b d logged
    (c.open_gate.ensures.images told kept new flags ready) in
    let count : c.len.result ≡ length pages = c.len.ensures ∙ c.args.spilled.now.ok.0 ∙
    prepared.count in
    let size : M ≡ kept.size = c.open_gate.ensures.size ∙ c.log.ensures.flushes.touches.size ∙ at in
    let within = λ (n : ℕ) (is : IsHomeOf M c.len.result listed n).
    home_in kept.size (length pages) flags listed named n
    (home_moved M kept.size c.len.result (length pages) listed n size count is) in
    let opened = c.in_ok-open_gate.ensures.opened told kept new flags ready in
    let brought = right kept new d e (homes_leave new flags (IsHomeOf M c.len.result listed) within
    d
    e opened c.bring_home.ensures.flushes.run) in
    record {
      images = joined (EachImage (Either kept new)) a d e opening brought;
      at_rest = no_ok _ c.from_residual-in_err-bring_home.result
          c.from_residual-in_err-bring_home.ensures.0;
    }

pub returns-clause-replaces : goal.returns-clause-replaces
returns-clause-replaces g c told kept pages prepared =
    let content = g.D.Device.content in
    let N = g.D.Device.size c.args.device.now in
    let flags = c.args.spilled.now.items in
    let listed = c.args.listed.now.items in
    let named = c.requires.spilled.named in
    let new = with_pages kept pages in
    let a = content c.args.device.now in
    let b = content c.log.new.device in
    let d = content c.open_gate.new.device in
    let log = c.in_ok-log.ensures in
    let at = g.met.D.Device.sized c.args.device.now told ∙ prepared.rest.fits.size in
    let run = subst (λ (n : ℕ). Flushes (IsBitmap n) a b) at log.flushes.run in
    let ready = bitmap_ready kept a b prepared.rest run pages flags prepared.kept_count
    prepared.count prepared.same prepared.slots (log.flushes.none_pending told)
    (λ p below. listed_names flags listed b.now.blocks (most_pages N) (log.named told)
    named.flagged (λ q on none. named.every q on (λ j low lt e. none j lt e)) p
    (omega (arith, below, c.requires.places.few))) in
    let logged = left kept new a b (bitmap_leaves kept a b prepared.rest run) in
    let M = g.D.Device.size c.open_gate.new.device in
    let e = content c.bring_home.new.device in
    let opening = joined (EachImage (Either kept new)) a b d logged
    (c.open_gate.ensures.images told kept new flags ready) in
    let count : c.len.result ≡ length pages = c.len.ensures ∙ c.args.spilled.now.ok.0 ∙
    prepared.count in
    let size : M ≡ kept.size = c.open_gate.ensures.size ∙ c.log.ensures.flushes.touches.size ∙ at in
    let within = λ (n : ℕ) (is : IsHomeOf M c.len.result listed n).
    home_in kept.size (length pages) flags listed named n
    (home_moved M kept.size c.len.result (length pages) listed n size count is) in
    let opened = c.in_ok-open_gate.ensures.opened told kept new flags ready in
    let brought = right kept new d e (homes_leave new flags (IsHomeOf M c.len.result listed) within
    d
    e opened c.bring_home.ensures.flushes.run) in
    let home_now = joined (EachImage (Either kept new)) a d e opening brought in
    let stored = subst (λ (P : ℕ). AreCopiedHome kept.size P listed d.now e.now) count
    (subst (λ (n : ℕ). AreCopiedHome n c.len.result listed d.now e.now) size
    (c.in_ok-bring_home.ensures.homes told)) in
    let back = homes_flushed new flags (IsHomeOf M c.len.result listed) within d e opened
    c.bring_home.ensures.flushes.run (c.in_ok-bring_home.ensures.flushes.none_pending told)
    (homes_hold kept.size pages flags listed named d.now e.now stored
    (λ p below on. (opened.logged.slots p below on).reads)) in
    record {
      images = joined (EachImage (Either kept new)) a e _ home_now
          (right kept new e _ (c.close_gate.ensures.images told new flags back));
      at_rest = c.close_gate.ensures.at_rest told new flags back;
    }
