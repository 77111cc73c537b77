-- Links that rise.
use Rattle.std.proofs.Common.{◌≡◌, ℕ, zero, suc, ◌<◌, sym, ◌∙◌, ap, subst, arith, List, []}
use Rattle.std.proofs.Common.{◌∷◌, ◌++◌, length}
use Rattle.std.specs.Prelude.{ℤ, ◌<ℤ◌, slice_index_or, All}
use Rattle.std.specs.Ordering.{int_cmp, ordering_then}
use Rattle.std.specs.Cmp.{int_cmp_is}
use Rattle.std.specs.Cmp.Lexicographic.{slice_cmp}
use Rattle.std.specs.declared.cmp.Ordering.TheVariants.{Less, Equal}
use Rattle.std.proofs.lemmas.List.{length-append, get_or_append_left}
use Rattle.std.proofs.Math.Seq.{get_or-append_seam}
use Rattle.bl_whole.specs.Sums.{component}
use Rattle.bl_certtext.specs.Places.{IsLower}
use Rattle.bl_cert_terms.specs.Certificates.{ProvedEntry, ComesBefore, AreRising}

-- the first difference decides
before_at : (k : ℕ) (xs ys : List ℤ) → k < length xs → k < length ys → component xs k <ℤ component ys k
    → ((i : ℕ) → i < k → component xs i ≡ component ys i) → slice_cmp int_cmp xs ys ≡ Less
before_at k [] ys b c lower before = absurd (omega arith)
before_at k (x ∷ xs) [] b c lower before = absurd (omega arith)
before_at zero (x ∷ xs) (y ∷ ys) b c lower before =
    ap (λ o. ordering_then o (slice_cmp int_cmp xs ys)) (sym (int_cmp_is x y Less lower))
before_at (suc k) (x ∷ xs) (y ∷ ys) b c lower before =
    ap (λ o. ordering_then o (slice_cmp int_cmp xs ys)) (sym (int_cmp_is x y Equal (before 0 (omega arith))))
    ∙ before_at k xs ys (omega arith) (omega arith) lower (λ i d. before (suc i) (omega arith))

pub comes_before : (l m : List ℤ) → IsLower l m → ComesBefore l m
comes_before l m h = before_at h.place l m h.within h.within_other h.lower h.before

-- where one more entry rises, its link comes behind all before it
pub above_all : (entries : List ProvedEntry) (e : ProvedEntry) → AreRising (entries ++ e ∷ [])
    → All (λ d. ComesBefore d.link e.link) entries
above_all entries e rising = λ k d b.
    let size = length-append entries (e ∷ []) in
    let here : slice_index_or (entries ++ e ∷ []) k d ≡ slice_index_or entries k d =
    get_or_append_left entries (e ∷ []) d k b in
    let last : slice_index_or (entries ++ e ∷ []) (length entries) d ≡ e = get_or-append_seam entries e [] d in
    let pair : ComesBefore (slice_index_or (entries ++ e ∷ []) k d).link
    (slice_index_or (entries ++ e ∷ []) (length entries) d).link =
    rising k (length entries) d b (omega arith) in
    subst (λ (x : ProvedEntry). ComesBefore x.link e.link) here
    (subst (λ (x : ProvedEntry). ComesBefore (slice_index_or (entries ++ e ∷ []) k d).link x.link) last pair)
