-- Trusted. Finished books of small programs, and the certificates that they have to give.
use Rattle.std.specs.Prelude.{ℤ, pos, ◌≡◌, List, [], ◌∷◌, Option, Some, None}
use Rattle.bl_terms.specs.Programs.{Program, root}
use Rattle.bl_terms.specs.Bounds.{Multipliers}
use Rattle.bl_terms.specs.Examples.{leader_refuses, one_cut, one, two, three, weights}
use Rattle.bl_fproof.specs.declared.answered.Step.TheVariants.{Shut}
use Rattle.bl_fproof.specs.declared.answered.Answered.TheVariants.{Best}
use Rattle.bl_fproof.specs.Entries.{Admitted}
use Rattle.bl_leaf_terms.specs.Incumbents.{Incumbent}
use Rattle.bl_leaf_terms.specs.Leaves.{Evidence, Bounded}
use Rattle.bl_book_terms.specs.Books.{Closed, Book}
use Rattle.bl_cert_terms.specs.Examples.{refusal, cut_at_top, one_cut_closes}
use Rattle.bl_cert_book.specs.BookCertificates.{certificate_of}

-- a book whose root is closed by this evidence
abbrev pub closed_at_root : Program → Option Incumbent → Evidence → Book
closed_at_root p best evidence = record {
  program = p;
  workers = 1;
  limit = 1;
  nodes = record {
    area = root p;
    cuts = [];
    status = Closed (record { program = p; area = root p; cutoff = best; evidence = evidence });
  } ∷ [];
  best = best;
}

-- the follower answers 0 to a link, which one bound shows
abbrev pub answers_zero : Program → List ℤ → Multipliers → Admitted
answers_zero p l w =
    record { program = p; link = l; answered = Best (one (pos 0)) (pos 0) (record { steps = Shut w ∷ [] }) }

-- the root is closed by the leader's row and the value row
abbrev pub refused_book : Book
refused_book =
    closed_at_root leader_refuses None
    (Bounded (weights (pos 0) (two (pos 1) (pos 1))) [] (Some (answers_zero leader_refuses [] (weights (pos 1) []))))

-- the root is closed by one cut, with the best incumbent (1, 0)
abbrev pub best_at_one : Incumbent
best_at_one = record {
  program = one_cut;
  point = two (pos 1) (pos 0);
  entry = answers_zero one_cut (one (pos 1)) (weights (pos 1) (one (pos 0)));
}

abbrev pub cut_book : Book
cut_book =
    closed_at_root one_cut (Some best_at_one)
    (Bounded (weights (pos 1) (three (pos 0) (pos 0) (pos 2)))
    (record { program = one_cut; steps = cut_at_top ∷ [] } ∷ []) None)

-- THE FACTS
pub record WorkedBooks : Type 0 where
  pub infeasible : certificate_of refused_book ≡ Some refusal
  pub optimal : certificate_of cut_book ≡ Some one_cut_closes
