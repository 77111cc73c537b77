-- How a row is written, and that it is read as the row.
use Rattle.std.proofs.Common.{◌≡◌, ℕ, Bool, true, false, Option, Some, None, ℤ, pos, negsuc, refl, sym}
use Rattle.std.proofs.Common.{ap, subst, ◌∙◌, arith, ◌⊎◌, inl, inr, unsigned_abs}
use Rattle.std.specs.Prelude.{◌-ℤ◌, ◌+ℤ◌, ◌≤ℤ◌, nat_le, IfSome}
use Rattle.std.specs.Ordering.{int_eq}
use Rattle.std.proofs.lemmas.Bool.{false≢true, le-leb}
use Rattle.std.proofs.lemmas.Bool.Decides.{Decides-int_eq, nat_tests}
use Rattle.std.proofs.lemmas.Int.{ints}
use Rattle.bl_limits.specs.declared.TheConstants.{MAX_TEXT_RHS}
use Rattle.bl_mps_terms.specs.declared.words.RowKind.{RowKind}
use Rattle.bl_mps_terms.specs.declared.words.RowKind.TheVariants.{AtMost, AtLeast, Equal}
use Rattle.bl_mps_terms.specs.Lines.{is_free}
use Rattle.bl_mps_terms.specs.Meaning.{lhs_of, rhs_of}
use Rattle.bl_mps_write.specs.Canonical.{two_sided, form_of_sides}
use Rattle.bl_mps_laws.proofs.Sayable.{IsTextSide, AreBothSides, AreSides}

-- A form of this kind, right-hand side and range keeps the limits of a text, and says these sides.
pub record IsForm (lo hi : Option ℤ) (kind : RowKind) (rhs : ℤ) (range : Option ℤ) : Type 0 where
  pub bounded : is_free kind ≡ false
  pub near : IsTextSide rhs
  pub far : IfSome range IsTextSide
  pub lower : lhs_of kind rhs range ≡ lo
  pub upper : rhs_of kind rhs range ≡ hi

-- how far two sides lie apart
record Apart (lo hi : ℤ) : Type 0 where
  gap : ℕ
  is : hi -ℤ lo ≡ pos gap

apart_by : (lo hi z : ℤ) → lo ≤ℤ hi → hi -ℤ lo ≡ z → Apart lo hi
apart_by lo hi (pos d) le e = record { gap = d; is = e }
apart_by lo hi (negsuc d) le e = absurd (omega (arith, ints))

above_low : (lo hi : ℤ) (d : ℕ) → hi -ℤ lo ≡ pos d → lo +ℤ pos d ≡ hi
above_low lo hi d e = omega (arith, ints)

below_high : (lo hi : ℤ) (d : ℕ) → hi -ℤ lo ≡ pos d → hi -ℤ pos d ≡ lo
below_high lo hi d e = omega (arith, ints)

module _ (lo hi : ℤ) (h : AreBothSides lo hi) where
  equal_sides : lo ≡ hi → IsTextSide lo ⊎ IsTextSide hi
      → IsForm (Some lo) (Some hi) Equal lo None
  equal_sides e (inl near) =
      record { bounded = refl; near = near; far = tt; lower = refl; upper = ap (λ (z : ℤ). Some z) e }
  equal_sides e (inr near) =
      record {
        bounded = refl;
        near = subst IsTextSide (sym e) near;
        far = tt;
        lower = refl;
        upper = ap (λ (z : ℤ). Some z) e;
      }

  from_low : IsTextSide lo → Apart lo hi
      → IsForm (Some lo) (Some hi) AtLeast lo (Some (hi -ℤ lo))
  from_low near apart =
      record {
        bounded = refl;
        near = near;
        far = h.range;
        lower = refl;
        upper = ap (λ (r : ℤ). rhs_of AtLeast lo (Some r)) apart.is
            ∙ ap (λ (z : ℤ). Some z) (above_low lo hi apart.gap apart.is);
      }

  from_high : IsTextSide hi → Apart lo hi
      → IsForm (Some lo) (Some hi) AtMost hi (Some (hi -ℤ lo))
  from_high near apart =
      record {
        bounded = refl;
        near = near;
        far = h.range;
        lower = ap (λ (r : ℤ). lhs_of AtMost hi (Some r)) apart.is
            ∙ ap (λ (z : ℤ). Some z) (below_high lo hi apart.gap apart.is);
        upper = refl;
      }

  high_near : IsTextSide lo ⊎ IsTextSide hi → nat_le (unsigned_abs lo) MAX_TEXT_RHS ≡ false → IsTextSide hi
  high_near (inl near) f = absurd (false≢true (sym f ∙ le-leb (unsigned_abs lo) MAX_TEXT_RHS near))
  high_near (inr near) f = near

  low_near : nat_le (unsigned_abs lo) MAX_TEXT_RHS ≡ true → IsTextSide lo
  low_near t = grind (arith, nat_tests)

  two_by : (equal small : Bool) → int_eq lo hi ≡ equal → nat_le (unsigned_abs lo) MAX_TEXT_RHS ≡ small
      → IsForm (Some lo) (Some hi) (two_sided lo hi).kind (two_sided lo hi).rhs (two_sided lo hi).range
  two_by true small e s = rw e (equal_sides ((Decides-int_eq lo hi).0 e) h.near)
  two_by false true e s = rw (e, s) (from_low (low_near s) (apart_by lo hi (hi -ℤ lo) h.ordered refl))
  two_by false false e s = rw (e, s) (from_high (high_near h.near s) (apart_by lo hi (hi -ℤ lo) h.ordered refl))

-- The form of a row says its sides.
pub form_said : (lo hi : Option ℤ) → AreSides lo hi
    → IsForm lo hi (form_of_sides lo hi).kind (form_of_sides lo hi).rhs (form_of_sides lo hi).range
form_said None None h = absurd h
form_said None (Some hi) h = record { bounded = refl; near = h; far = tt; lower = refl; upper = refl }
form_said (Some lo) None h = record { bounded = refl; near = h; far = tt; lower = refl; upper = refl }
form_said (Some lo) (Some hi) h = two_by lo hi h (int_eq lo hi) (nat_le (unsigned_abs lo) MAX_TEXT_RHS) refl refl
