-- Indexed sequential files that are made.
use Rattle.std.proofs.Common.{◌≡◌, ◌≢◌, inl, inr, ℕ, ◌<◌, ◌≤◌, List, [], length, map, set, Some, sym, ap, subst, ◌∙◌, arith}
use Rattle.std.specs.Prelude.{slice_get}
use Rattle.std.specs.FinMap as fin
use Rattle.std.proofs.lemmas.Bool.{cases_eq}
use Rattle.std.proofs.lemmas.List.{nil_from_length, get_or-set_same}
use Rattle.std.proofs.lemmas.Option.{same_Some, none-some}
use Rattle.gx_bytes.specs.declared.page.TheConstants.{NONE}
use Rattle.gx_ports.specs.declared.kinds.LeafKind.TheVariants as kinds
use Rattle.gx_ports.specs.declared.pages.Place.{Place}
use Rattle.gx_ports.specs.Files.{OthersStay, IsVacant, IsPlace, ClaimsRoots}
use Rattle.gx_ports.specs.Roots.{roots_of, roots_of_kind}
use Rattle.gx_ports.specs.Sheets.{Sheets, Ground, IsClaimed, bytes_at}
use Rattle.gx_ports.specs.Keyed.{key_cmp}
use Rattle.gx_chain.specs.Chain.{IsChain}
use Rattle.gx_chain.proofs.ChainLemmas.{fit_none}
use Rattle.gx_chain.proofs.ListLemmas.{contains_none}
use Rattle.gx_chain.proofs.WriteLemmas.{slice_get_set, slice_get_set_same}
use Rattle.gx_isam_index.specs.Index.{IsIndexPage, bucket_count, first_page_of}
use Rattle.gx_isam_index.specs.Fresh.{fresh_count}
use Rattle.gx_isam.specs.Fresh.{IsFresh}
use Rattle.gx_isam.specs.Isam.{IsIsam}
use Rattle.gx_isam.proofs.BucketLemmas.{as_isam}

no_keys : fin.keys (fin.empty {X = List ℕ} {R = key_cmp}) ≡ []
no_keys = ap (map (λ e. e.0))
    (nil_from_length _ (sym (fin.len-entries (fin.empty {X = List ℕ} {R = key_cmp}))
    ∙ fin.len-empty key_cmp (List ℕ)))

pub one_root : (place : Place) → place.spec.kind ≡ kinds.Isam → roots_of place.spec ≡ 1
one_root place kind = ap roots_of_kind kind

module _ (ground : Ground) (place : Place) (s c t : Sheets) (page : List ℕ)
    (kind : place.spec.kind ≡ kinds.Isam)
    (at : IsPlace ground place) (vacant : IsVacant place s)
    (claim : IsClaimed place.root place.owner ground s c)
    (below : place.root < length c.bytes)
    (written : t ≡ record { owners = c.owners; bytes = set c.bytes place.root page })
    (index : IsIndexPage page) (one : bucket_count page ≡ 1) (none : first_page_of page 0 ≡ NONE)
  where
    owners_are : (q : ℕ) → slice_get t.owners q ≡ slice_get (set s.owners place.root place.owner) q
    owners_are q = ap (λ (x : Sheets). slice_get x.owners q) written
        ∙ ap (λ (o : List ℕ). slice_get o q) claim.owned.owners

    owner_stays : (q : ℕ) → q ≢ place.root → slice_get t.owners q ≡ slice_get s.owners q
    owner_stays q d = owners_are q ∙ slice_get_set s.owners place.root q place.owner d

    root_owned : slice_get t.owners place.root ≡ Some place.owner
    root_owned = owners_are place.root
        ∙ slice_get_set_same s.owners place.root place.owner 0 claim.was_free

    byte_stays : (q : ℕ) → ground.tables ≤ q → q ≢ place.root
        → slice_get t.bytes q ≡ slice_get s.bytes q
    byte_stays q past d = ap (λ (x : Sheets). slice_get x.bytes q) written
        ∙ slice_get_set c.bytes place.root q page d
        ∙ claim.owned.bytes q past

    root_page : bytes_at t place.root ≡ page
    root_page = ap (λ (x : Sheets). bytes_at x place.root) written
        ∙ get_or-set_same c.bytes place.root page [] below

    none_chain : (i : ℕ) → i < bucket_count (bytes_at t place.root)
        → IsChain ground place.owner t (first_page_of (bytes_at t place.root) i) []
    none_chain i less =
        let size = ap bucket_count root_page ∙ one in
        let zero : i ≡ 0 = omega (arith, less, size) in
        record {
          linked = ap (λ (b : List ℕ). first_page_of b i) root_page ∙ ap (first_page_of page) zero
              ∙ none;
          fit = fit_none ground place.owner t (first_page_of (bytes_at t place.root) i);
        }

    pub isam_made : IsIsam ground place t fin.empty
    isam_made = as_isam ground place t fin.empty (λ i. []) (subst IsIndexPage (sym root_page) index)
        root_owned
        (record {
          chains = none_chain;
          filled = λ i q less q_in. absurd (contains_none q q_in);
          placed = λ i k b less on. absurd (contains_none on.page on.among);
        })
        (λ q o. elim (cases_eq q place.root)
        [ inl e ↦ inl e | inr d ↦ absurd (vacant.none q (sym (owner_stays q d) ∙ o)) ])
        (λ k b. (
          λ is. absurd (none-some b (sym (fin.get-empty key_cmp k) ∙ is)),
          λ on. absurd (contains_none on.page on.among),
        ))

    apart_from : (other q : ℕ) → other ≢ 0 → slice_get s.owners q ≡ Some other → q ≢ place.root
    apart_from other q z o e =
        z (sym (same_Some 0 other (sym claim.was_free ∙ ap (slice_get s.owners) (sym e) ∙ o)))

    pub isam_made_others : OthersStay ground place.owner s t
    isam_made_others other d z = record {
      owned = λ q. (
        λ o. owner_stays q (apart_from other q z o) ∙ o,
        λ o. sym (owner_stays q
            (λ e. d (sym (same_Some place.owner other (sym root_owned
            ∙ ap (slice_get t.owners) (sym e) ∙ o))))) ∙ o,
      );
      bytes = λ q past o. byte_stays q past (apart_from other q z o);
    }

    -- an index of one bucket is that of no keys
    pub isam_made_fresh : IsFresh place t fin.empty
    isam_made_fresh =
        let size : bucket_count (bytes_at t place.root) ≡ 1 = ap bucket_count root_page ∙ one in
        record {
          count = size ∙ ap fresh_count (sym no_keys);
          separators = λ bucket from less. absurd (omega (arith, from, less, size));
        }

    pub isam_made_roots : ClaimsRoots place s t
    isam_made_roots q off =
        let roots = one_root place kind in
        owner_stays q (λ e. off (omega (arith, e), omega (arith, e, roots)))
