-- The image of a marking in the contracted graph, and that a contraction follows every run.
use Rattle.std.proofs.Common.{◌≡◌, ◌≢◌, ℕ, List, [], ◌∷◌, sym, ◌∙◌, subst, inl, inr, arith}
use Rattle.std.proofs.lemmas.Bool.{cases_eq}
use Rattle.stg_net.specs.Graph.{Graph, IsTrans, takes, gives}
use Rattle.stg_net.specs.Run.{Marking, IsEnabled, fired, IsRunFrom}
use Rattle.stg_laws.specs.Secure.{IsPureOrdinary}
use Rattle.stg_laws.specs.LeaveOut.{leave_out}
use Rattle.stg_laws.proofs.Origins.{IsContraction, sum_over, sum_over-mono, sum_over-fired, sum_over-silent}
use Rattle.stg_laws.proofs.LeaveOut.{leave_out-same, leave_out-other}

module _ (g h : Graph) (t : ℕ) (k : IsContraction g h t) where
  -- the marking n of the contracted graph is the image of m
  pub record IsImage (m n : Marking) : Type 0 where
    pub is : (r : ℕ) → n r ≡ sum_over (k.origin r) m

  -- a transition of the contracted graph is one of the graph before
  pub live_before : (u : ℕ) → IsTrans h u → IsTrans g u
  live_before u live = rw (k.names u (k.gone u live)) at live

  -- and another one than t stays
  live_after : (u : ℕ) → u ≢ t → IsTrans g u → IsTrans h u
  live_after u other live = rw (k.names u other) live

  -- what another transition needs before covers what it needs after
  enabled_after : (u : ℕ) (m n : Marking) → IsImage m n → u ≢ t → IsEnabled g m u → IsEnabled h n u
  enabled_after u m n image other e = record {
    live = live_after u other e.live;
    covered = λ r. omega (
      arith,
      image.is r,
      k.taken u r e.live other,
      sum_over-mono (k.origin r) (takes g u) m e.covered,
    );
  }

  -- firing another transition keeps the image
  pub image_fired : (u : ℕ) (m n : Marking) → IsImage m n → u ≢ t → IsEnabled g m u
      → IsImage (fired g m u) (fired h n u)
  image_fired u m n image other e = record {
    is = λ r. omega (
      arith,
      image.is r,
      k.taken u r e.live other,
      k.given u r e.live other,
      sum_over-fired (k.origin r) m (takes g u) (gives g u) e.covered,
    );
  }

  module _ (pure_ordinary : IsPureOrdinary g t) where
    -- firing t itself leaves the image as it was
    pub image_silent : (m n : Marking) → IsImage m n → IsEnabled g m t → IsImage (fired g m t) n
    image_silent m n image e =
        record { is = λ r. image.is r ∙ sym (sum_over-silent g t pure_ordinary (k.origin r) m (k.around r) e.covered) }

    -- what is left of a run without t is a run from the image
    pub follow_run : (w : List ℕ) (m n : Marking) → IsImage m n → IsRunFrom g m w
        → IsRunFrom h n (leave_out t w)
    follow_run [] m n image run = run
    follow_run (u ∷ w) m n image run = elim (cases_eq u t) [
      | inl e ↦
          let P : ℕ → Type 0 = λ x. IsEnabled g m x × IsRunFrom g (fired g m x) w → IsRunFrom h n (leave_out t (x ∷ w)) in
          subst P (sym e) (λ r. rw leave_out-same (follow_run w (fired g m t) n (image_silent m n image r.0) r.1)) run
      | inr other ↦
          rw leave_out-other (enabled_after u m n image other run.0, follow_run w (fired g m u) (fired h n u) (image_fired u m n image other run.0) run.1)
    ]
