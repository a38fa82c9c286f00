-- A write moves the front of `rest` to what was written, none is made with no bytes, and one that fails leaves bytes.
use Rattle.std.proofs.Common.{◌≡◌, ℕ, ◌-◌, ◌<◌, ◌≤◌, List, [], ◌++◌, length, take, drop, sym, ap, subst, ◌∙◌, append_assoc, append-nil, take-append-drop, length-append, arith, rules, tests, Option, Some, None, IsSome}
use Rattle.std.specs.Io.KnownBytes.{Appends, Keeps}
use Rattle.std.proofs.lemmas.List.{take_rest}
use Rattle.std.proofs.KnownBytes.{Appends-trans}
use Rattle.ark_bytes.proofs.sink.IoSinkSink.put.Goals as goal
use Rattle.ark_bytes.proofs.sink.IoSinkSink.put.Goals.{in_default-via-in-Ok+else-count-gt0, in_default-via-in_default}

moves_front : (all written rest : List ℕ) (n : ℕ) → all ≡ written ++ rest
    → all ≡ (written ++ take n rest) ++ take (length rest - n) (drop n rest)
moves_front all written rest n splits =
    splits ∙ ap (λ l. written ++ l) (sym (take-append-drop n rest))
    ∙ sym (append_assoc written (take n rest) (drop n rest))
    ∙ ap (λ l. (written ++ take n rest) ++ l) (sym (take_rest rest n))

nothing_left : (all written rest : List ℕ) (n : ℕ) → all ≡ written ++ rest → all ≡ [] → 0 < n → n ≤ length rest → ⊥
nothing_left all written rest n splits none some within =
    omega (arith, simp length-append at (ap length (sym none ∙ splits)))

nothing_more : (now next : Option (List ℕ)) → Keeps now next → Appends now next []
nothing_more None next keeps = tt
nothing_more (Some xs) None keeps = keeps
nothing_more (Some xs) (Some ys) keeps = keeps ∙ sym (append-nil xs)

still_short : (old now next : Option (List ℕ)) (all written rest : List ℕ) → all ≡ written ++ rest → 0 < length rest
    → IsSome old → Appends old now written → Appends now next [] → Appends old next all → ⊥
still_short None now next all written rest splits some known before last whole = cc
still_short (Some xs) None next all written rest splits some known before last whole = before
still_short (Some xs) (Some ys) None all written rest splits some known before last whole = last
still_short (Some xs) (Some ys) (Some zs) all written rest splits some known before last whole =
    let taken = simp length-append at (ap length before) in
    let kept = simp length-append at (ap length last) in
    let wanted = simp length-append at (ap length (whole ∙ ap (λ l. xs ++ l) splits)) in
    omega (arith, some, taken, kept, wanted)

pub returns-in_default-clause-short : goal.returns-in_default-clause-short
returns-in_default-clause-short g c known whole =
    let (written, splits, appends) = c.loop-rest.invariant.writes in
    let rest = c.loop-rest.rest.now in
    let last : Appends (g.W.Write.contents c.loop-rest.self.inner) (g.W.Write.contents c.write.new.self) [] =
    elim c.in_default.branch [
      | in_default-via-in-Ok+else-count-gt0 w ↦
          let none : w.in-Ok.count ≡ 0 = omega (arith, w.if-count-gt0.false) in
          subst (λ n. Appends (g.W.Write.contents c.loop-rest.self.inner) (g.W.Write.contents c.write.new.self) (take n rest)) none w.in-Ok.ensures.bytes
      | in_default-via-in_default w ↦ nothing_more _ _ w.in_default.ensures.bytes
    ] in
    still_short _ _ _ _ written rest splits (search (rules, tests)) known appends last whole

pub loop-rest-preserved : goal.loop-rest-preserved
loop-rest-preserved g c =
    let (written, splits, appends) = c.loop-rest.invariant.writes in
    let rest = c.loop-rest.rest.now in
    let n = c.in-Ok.count in
    record {
      writes = (
        written ++ take n rest,
        moves_front _ written rest n splits,
        Appends-trans _ _ _ _ _ appends c.in-Ok.ensures.bytes,
      );
      counted = c.loop-rest.invariant.counted;
      empty = λ none. absurd (nothing_left _ written rest n splits none c.if-count-gt0.true c.in-Ok.ensures.bound);
    }
