-- What one write of the root makes of the pages.
use Rattle.std.proofs.Common.{◌≡◌, ◌≢◌, ℕ, ◌<◌, List, [], length, set, Ok, Err, refl, sym, ap, subst, ◌∙◌}
use Rattle.std.specs.Prelude.{slice_get, Result, IsErrOf, OnOk}
use Rattle.std.specs.Result.{IsErrAnd}
use Rattle.std.proofs.lemmas.List.{get_or-set_same}
use Rattle.gx_ports.specs.declared.stop.Stop.{Stop}
use Rattle.gx_ports.specs.declared.stop.Stop.TheVariants as stop
use Rattle.gx_ports.specs.declared.page_view.PageView.{Ghosts}
use Rattle.gx_ports.specs.Files.{EndsFile, OthersStay}
use Rattle.gx_ports.specs.Sheets.{Sheets, Ground, bytes_at}
use Rattle.gx_chain.proofs.WriteLemmas.{slice_get_set}
use Rattle.gx_isam_index.specs.Index.{IsIndexPage, bucket_count, first_page_of, separators_of}
use Rattle.gx_isam.specs.Change.{IsIndexWritten}

-- an index was written to the root
pub index_written : (s m t : Sheets) (root bucket first : ℕ) (index page : List ℕ) → m ≡ s
    → root < length s.bytes
    → t ≡ record { owners = m.owners; bytes = set m.bytes root page } → IsIndexPage page
    → bucket_count page ≡ bucket_count index → first_page_of page bucket ≡ first
    → ((other : ℕ) → other < bucket_count index → other ≢ bucket
    → first_page_of page other ≡ first_page_of index other)
    → separators_of page ≡ separators_of index
    → IsIndexWritten root index bucket first s t
index_written s m t root bucket first index page same below is is_page count first_is firsts
    separators =
    let t_is : t ≡ record { owners = s.owners; bytes = set s.bytes root page } = is
    ∙ ap (λ (x : Sheets). record { owners = x.owners; bytes = set x.bytes root page }) same in
    let here : bytes_at t root ≡ page = ap (λ (x : Sheets). bytes_at x root) t_is
    ∙ get_or-set_same s.bytes root page [] below in
    record {
      owners = ap (λ (x : Sheets). x.owners) t_is;
      is_page = subst IsIndexPage (sym here) is_page;
      count = ap bucket_count here ∙ count;
      first_is = ap (λ (b : List ℕ). first_page_of b bucket) here ∙ first_is;
      firsts = λ other in' d. ap (λ (b : List ℕ). first_page_of b other) here ∙ firsts other in' d;
      separators = ap separators_of here ∙ separators;
      others = λ q d. ap (λ (x : Sheets). slice_get x.bytes q) t_is
          ∙ slice_get_set s.bytes root q page d;
    }

-- a refusal that is handed on is the one that was answered
pub same_refusal : {T : Type 0} (result : Result T Stop) (why e : Stop)
    → IsErrAnd result (λ s. s ≡ why) → IsErrOf result e → why ≡ e
same_refusal (Ok x) why e handed is = absurd handed
same_refusal (Err s) why e handed is = sym handed ∙ (let same : s ≡ e = cc in same)

-- a change of sheets that didn't fail, and neither looked for a page nor for memory, spares others
pub changed_spared : {S : Type 0} (g : Ghosts S) (sound : Type 0) (ground : Ground) (owner : ℕ)
    (s : Sheets) (old new : S)
    (result : Result (Unit {0}) Stop) → sound → EndsFile g sound old new result
    → OnOk result (OthersStay ground owner s (g.working new)) → ¬ IsErrOf result stop.Full
    → ¬ IsErrOf result stop.NoMemory
    → ¬ IsErrOf result stop.Fault
    → OthersStay ground owner s (g.working new)
changed_spared g sound ground owner s old new (Ok u) whole ends ok full frugal fault = ok
changed_spared g sound ground owner s old new (Err stop.Fault) whole ends ok full frugal fault =
    absurd (fault refl)
changed_spared g sound ground owner s old new (Err stop.Full) whole ends ok full frugal fault =
    absurd (full refl)
changed_spared g sound ground owner s old new (Err (stop.Damaged n)) whole ends ok full frugal
    fault =
    absurd (ends.cause.damaged n refl whole)
changed_spared g sound ground owner s old new (Err stop.NoMemory) whole ends ok full frugal fault =
    absurd (frugal refl)

-- what is sound isn't refused but for a fault
pub no_refusal : {S T : Type 0} (g : Ghosts S) (sound : Type 0) (old new : S) (why : Stop) → sound
    → EndsFile {T = T} g sound old new (Err why) → (IsErrOf {T = T} (Err why) stop.Full → ⊥)
    → (IsErrOf {T = T} (Err why) stop.NoMemory → ⊥) → (why ≡ stop.Fault → ⊥) → ⊥
no_refusal g sound old new stop.Fault whole ends full frugal fault = fault refl
no_refusal g sound old new stop.Full whole ends full frugal fault = full refl
no_refusal g sound old new (stop.Damaged n) whole ends full frugal fault =
    ends.cause.damaged n refl whole
no_refusal g sound old new stop.NoMemory whole ends full frugal fault = frugal refl

-- nor is it but for a fault or where no page was found, and then nothing has changed
pub only_full : {S T : Type 0} (g : Ghosts S) (old new : S) (why : Stop)
    → EndsFile {T = T} g (Unit {0}) old new (Err why)
    → (IsErrOf {T = T} (Err why) stop.Full → g.working new ≡ g.working old)
    → (IsErrOf {T = T} (Err why) stop.NoMemory → ⊥)
    → (why ≡ stop.Fault → ⊥) → g.working new ≡ g.working old
only_full g old new stop.Fault ends full frugal fault = absurd (fault refl)
only_full g old new stop.Full ends full frugal fault = full refl
only_full g old new (stop.Damaged n) ends full frugal fault = absurd (ends.cause.damaged n refl tt)
only_full g old new stop.NoMemory ends full frugal fault = absurd (frugal refl)

-- a refusal that is handed on is answered
pub handed_refusal : {T : Type 0} (result : Result T Stop) (why e : Stop)
    → IsErrAnd result (λ s. s ≡ why) → why ≡ e → IsErrOf result e
handed_refusal (Ok x) why e handed is = absurd handed
handed_refusal (Err s) why e handed is = ap Err (handed ∙ is)
