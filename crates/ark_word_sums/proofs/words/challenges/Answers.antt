use Rattle.std.proofs.Common.{◌≡◌, ◌<◌, ◌≤◌, ◌+◌, ◌*◌, ◌/◌, ◌%◌, ℕ, List, All, inl, map, length, slice_range, arith, ap, ap₂, refl, subst, sym, ◌∙◌}
use Rattle.std.proofs.lemmas.List.{take_all}
use Rattle.std.proofs.lemmas.Nat.{div-add-mod', mul-le}
use Rattle.ark_words.specs.Numbers.{AreReduced, numbers}
use Rattle.ark_words.proofs.WordLists.{length_read, number_end, numbers_below}
use Rattle.ark_word_sums.proofs.ElementWords.{numbers_of_elements, one_more_read, whole_elements}
use Rattle.ark_word_sums.proofs.words.challenges.Goals as goal

pub offset_bounds-deref-i : goal.offset_bounds-deref-i
offset_bounds-deref-i g c =
    let d = c.DEGREE-degree.result in
    let n = length c.deref.result.now in
    let of_len : c.len.result ≡ n = c.len.ensures ∙ c.in_ok-coefficients.coefficients.ok.0 ∙ sym (ap length c.deref.ensures.value) in
    let inside : c.loop-i.i < n / d = subst (λ k. c.loop-i.i < k / d) of_len c.loop-i-test.true in
    let parts : n / d * d + n % d ≡ n = div-add-mod' n d in
    omega (arith, parts, number_end d (n / d) c.loop-i.i inside)

pub returns-in_default-clause-refusal : goal.returns-in_default-clause-refusal
returns-in_default-clause-refusal g c =
    let F = g.F.PrimeNumbers in
    inl (
      subst (λ f. AreReduced f c.args.words.now) (sym g.met.F.WordElement.spelled_law)
          (subst (All (λ x. x < F.modulus)) c.in_ok-coefficients.ensures.numbers (numbers_below F.numbering c.in_ok-coefficients.coefficients.items)),
      refl,
    )

pub returns-in_default-push-clause-refusal : goal.returns-in_default-push-clause-refusal
returns-in_default-push-clause-refusal g c =
    let F = g.F.PrimeNumbers in
    inl (
      subst (λ f. AreReduced f c.args.words.now) (sym g.met.F.WordElement.spelled_law)
          (subst (All (λ x. x < F.modulus)) c.in_ok-coefficients.ensures.numbers (numbers_below F.numbering c.in_ok-coefficients.coefficients.items)),
      refl,
    )

pub loop-i-preserved : goal.loop-i-preserved
loop-i-preserved g c =
    let degree = g.F.Challenge.ChallengeOf.DEGREE in
    let cs = c.in_ok-coefficients.coefficients.items in
    let i = c.loop-i.i in
    one_more_read g.F.Challenge.ChallengeOf.coefficients (i * degree) ((i + 1) * degree) cs c.loop-i.found.items c.push.new.self.items c.of_coefficients-challenge.result
    (omega arith)
    c.in-Ok-push.ensures.items
    c.loop-i.invariant
    (c.of_coefficients-challenge.ensures ∙ ap₂ (λ (v : List g.row.F.Denot) (n : ℕ). slice_range v (i * n) ((i + 1) * n)) c.deref.ensures.value c.DEGREE-degree.ensures)

pub returns-clause-elements : goal.returns-clause-elements
returns-clause-elements g c =
    let number = g.F.PrimeNumbers.numbering.number in
    let coefficients = g.F.Challenge.ChallengeOf.coefficients in
    let width = g.F.WordElement.WIDTH in
    let degree = g.F.Challenge.ChallengeOf.DEGREE in
    let words = c.args.words.now in
    let cs = c.in_ok-coefficients.coefficients.items in
    let i = c.loop-i.i in
    let law : g.F.WordElement.spelled.width ≡ width = ap (λ f. f.width) g.met.F.WordElement.spelled_law in
    let count : length cs ≡ length words / width = length_read number width cs words c.in_ok-coefficients.ensures.numbers in
    let whole = whole_elements (length words) degree width g.met.F.Challenge.ChallengeOf.positive_law g.met.F.WordElement.width_law
    (sym (ap (λ w. length words % (degree * w)) law) ∙ c.requires) in
    let parts : length cs / degree * degree ≡ length cs = ap (λ n. n / degree * degree) count ∙ whole ∙ sym count in
    let of_len : c.len.result ≡ length cs = c.len.ensures ∙ c.in_ok-coefficients.coefficients.ok.0 in
    let ended : length cs / degree ≤ i = rw (of_len, c.DEGREE-degree.ensures) at c.loop-i-test.false in
    let most : length cs / degree * degree ≤ i * degree = mul-le (length cs / degree) degree i degree ended (omega arith) in
    let all = c.loop-i.invariant ∙ take_all (i * degree) cs (omega (arith, parts, most)) in
    ap (λ w. numbers w words) law
    ∙ sym c.in_ok-coefficients.ensures.numbers
    ∙ ap (map number) (sym all)
    ∙ numbers_of_elements number coefficients c.loop-i.found.items
