use Rattle.std.proofs.Common.{◌≡◌, ◌*◌, length, map, unwrap_or, subst, subst₂, sym, ap, ◌∙◌}
use Rattle.std.proofs.lemmas.List.{length-map}
use Rattle.std.specs.Prelude.{is_none}
use Rattle.ark_math.proofs.Outcomes.Results.{IfOk_more}
use Rattle.rs_code.specs.Codeword.{IsCodeword, AgreesElsewhere, mark_count}
use Rattle.rs_code.specs.Cost.{GrowsWithin}
use Rattle.rs_code.proofs.Places.{agrees-with, agrees-elsewhere, mark_count-none}
use Rattle.rs_code.proofs.Refused.{refused_same}
use Rattle.rs_code.proofs.Spent.{nothing_within}
use Rattle.rs_code.proofs.code.DomainCode.restore_counted.Goals as goal

pub returns-then-word-size-clause-cost : goal.returns-then-word-size-clause-cost
returns-then-word-size-clause-cost g c =
    let d = g.D.EvaluationDomain.domain c.self.inside.domain in
    subst (λ r. GrowsWithin g.F.FftField.adicity r.domain 3 (5 * r.domain.size) c.args.work.now c.args.work.now) c.self.view_is
    (nothing_within g.F.FftField.adicity g.met.F.FftField.roots_law.base d c.self.invariant.lawful.size_of 3 (5 * d.size) c.args.work.now)

pub returns-then-count_erased-size-clause-cost : goal.returns-then-count_erased-size-clause-cost
returns-then-count_erased-size-clause-cost g c =
    let d = g.D.EvaluationDomain.domain c.self.inside.domain in
    subst (λ r. GrowsWithin g.F.FftField.adicity r.domain 3 (5 * r.domain.size) c.args.work.now c.args.work.now) c.self.view_is
    (nothing_within g.F.FftField.adicity g.met.F.FftField.roots_law.base d c.self.invariant.lawful.size_of 3 (5 * d.size) c.args.work.now)

pub returns-in_err-erased_places-clause-cost : goal.returns-in_err-erased_places-clause-cost
returns-in_err-erased_places-clause-cost g c =
    let d = g.D.EvaluationDomain.domain c.self.inside.domain in
    subst (λ r. GrowsWithin g.F.FftField.adicity r.domain 3 (5 * r.domain.size) c.args.work.now c.args.work.now) c.self.view_is
    (nothing_within g.F.FftField.adicity g.met.F.FftField.roots_law.base d c.self.invariant.lawful.size_of 3 (5 * d.size) c.args.work.now)

pub returns-in_err-decoder-clause-cost : goal.returns-in_err-decoder-clause-cost
returns-in_err-decoder-clause-cost g c =
    let d = g.D.EvaluationDomain.domain c.self.inside.domain in
    subst (λ r. GrowsWithin g.F.FftField.adicity r.domain 3 (5 * r.domain.size) c.args.work.now c.args.work.now) c.self.view_is
    (nothing_within g.F.FftField.adicity g.met.F.FftField.roots_law.base d c.self.invariant.lawful.size_of 3 (5 * d.size) c.args.work.now)

pub returns-in_err-values-clause-cost : goal.returns-in_err-values-clause-cost
returns-in_err-values-clause-cost g c =
    let d = g.D.EvaluationDomain.domain c.self.inside.domain in
    subst (λ r. GrowsWithin g.F.FftField.adicity r.domain 3 (5 * r.domain.size) c.args.work.now c.args.work.now) c.self.view_is
    (nothing_within g.F.FftField.adicity g.met.F.FftField.roots_law.base d c.self.invariant.lawful.size_of 3 (5 * d.size) c.args.work.now)

pub returns-clause-agrees : goal.returns-clause-agrees
returns-clause-agrees g c =
    let V = g.T.Summand.group in
    let m = g.T.Summand.meaning in
    let word = c.args.word.now in
    let marks : c.in_ok-decoder.decoder.erased ≡ map is_none word = c.in_ok-decoder.ensures.erased ∙ c.deref.ensures.value ∙ c.in_ok-erased_places.ensures in
    let values : c.deref-2.result.now ≡ map (λ p. unwrap_or p c.zero.result) word = c.deref-2.ensures.value ∙ c.in_ok-values.ensures in
    IfOk_more c.restore_counted.result
    (λ v agrees. agrees-with V m word c.zero.result (map m v.items) (subst₂ (λ e y. AgreesElsewhere V e (map m y) (map m v.items)) marks values agrees))
    c.restore_counted.ensures.agrees

pub returns-clause-only : goal.returns-clause-only
returns-clause-only g c =
    let K = g.F.Field.field in
    let V = g.T.Summand.group in
    let m = g.T.Summand.meaning in
    let word = c.args.word.now in
    let marks : c.in_ok-decoder.decoder.erased ≡ map is_none word = c.in_ok-decoder.ensures.erased ∙ c.deref.ensures.value ∙ c.in_ok-erased_places.ensures in
    let values : c.deref-2.result.now ≡ map (λ p. unwrap_or p c.zero.result) word = c.deref-2.ensures.value ∙ c.in_ok-values.ensures in
    IfOk_more c.restore_counted.result
    (λ v only other is agrees. only other
    (subst (λ r. IsCodeword K V r.domain r.k other) (sym c.in_ok-decoder.ensures.code) is)
    (subst₂ (λ e y. AgreesElsewhere V e (map m y) other) (sym marks) (sym values) (agrees-elsewhere V m word c.zero.result other agrees)))
    c.restore_counted.ensures.only

pub returns-clause-refused : goal.returns-clause-refused
returns-clause-refused g c =
    let V = g.T.Summand.group in
    let m = g.T.Summand.meaning in
    let word = c.args.word.now in
    let marks : c.in_ok-decoder.decoder.erased ≡ map is_none word = c.in_ok-decoder.ensures.erased ∙ c.deref.ensures.value ∙ c.in_ok-erased_places.ensures in
    let values : c.deref-2.result.now ≡ map (λ p. unwrap_or p c.zero.result) word = c.deref-2.ensures.value ∙ c.in_ok-values.ensures in
    refused_same g.F.Field.field V c.restore_counted.result _ _ _ _ _ _ _ _ c.in_ok-decoder.ensures.code (ap length values ∙ length-map word _) (ap mark_count marks ∙ mark_count-none word)
    (λ other agrees. subst₂ (λ e y. AgreesElsewhere V e (map m y) other) (sym marks) (sym values) (agrees-elsewhere V m word c.zero.result other agrees))
    c.restore_counted.ensures.refused
