-- A row of butterflies across two halves: what each has written so far, and what it has still to read.
use Rattle.std.proofs.Common.{◌≡◌, ℕ, ◌+◌, ◌<◌, ◌≤◌, List, length, get_or, map, set, refl, ◌∙◌}
use Rattle.ark_math.proofs.Lists.Lists.{read_at, written_more, written_rest}
use Rattle.ark_fft.proofs.Counts.{itself, none_yet}

-- before index i both lists have their new items, and from there on the first ones
pub record AreCrossed {X M : Type 0} (m : X → M) (z : M) (new_lo new_hi old_lo old_hi : ℕ → M) (i : ℕ) (lo hi : List X) : Type 0 where
  pub done_lo : (k : ℕ) → k < i → get_or (map m lo) k z ≡ new_lo k
  pub done_hi : (k : ℕ) → k < i → get_or (map m hi) k z ≡ new_hi k
  pub rest_lo : (k : ℕ) → i ≤ k → get_or (map m lo) k z ≡ old_lo k
  pub rest_hi : (k : ℕ) → i ≤ k → get_or (map m hi) k z ≡ old_hi k

module _ {X M : Type 0} (m : X → M) (z : M) (new_lo new_hi : ℕ → M) where
  pub none_crossed : (lo hi : List X) → AreCrossed m z new_lo new_hi (λ k. get_or (map m lo) k z) (λ k. get_or (map m hi) k z) 0 lo hi
  none_crossed lo hi = record {
    done_lo = λ k l. none_yet k l;
    done_hi = λ k l. none_yet k l;
    rest_lo = λ k l. refl;
    rest_hi = λ k l. refl;
  }

  -- a butterfly reads the first items at its index, and writes the new ones
  pub one_crossed : (old_lo old_hi : ℕ → M) (lo hi : List X) (i : ℕ) (a b s t : X) → i < length lo → i < length hi → AreCrossed m z new_lo new_hi old_lo old_hi i lo hi → (m (get_or lo i a) ≡ old_lo i → m (get_or hi i b) ≡ old_hi i → (m s ≡ new_lo i) × (m t ≡ new_hi i)) → AreCrossed m z new_lo new_hi old_lo old_hi (i + 1) (set lo i s) (set hi i t)
  one_crossed old_lo old_hi lo hi i a b s t in_lo in_hi v butterfly =
      let both = butterfly (read_at m z lo i a in_lo ∙ v.rest_lo i (itself i)) (read_at m z hi i b in_hi ∙ v.rest_hi i (itself i)) in
      record {
        done_lo = written_more m z new_lo lo i s in_lo v.done_lo both.0;
        done_hi = written_more m z new_hi hi i t in_hi v.done_hi both.1;
        rest_lo = written_rest m z old_lo lo i s v.rest_lo;
        rest_hi = written_rest m z old_hi hi i t v.rest_hi;
      }
