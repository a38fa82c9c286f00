use Rattle.std.proofs.Common.{◌≡◌, ◌/◌, ◌++◌, take, drop, true, length, get_or, sym, ◌∙◌, ap, subst, arith}
use Rattle.ark_math.specs.Field.{natural}
use Rattle.ark_math.specs.Domain.{element}
use Rattle.ark_math.specs.Univariate.{of_list}
use Rattle.ark_math.proofs.Lists.Lists.{written_back}
use Rattle.ark_math_domains.proofs.Domains.LawfulDomains.{lawful_domain, order}
use Rattle.rs_code.specs.Locator.{IsFactor, lost}
use Rattle.rs_code.specs.Turns.{AreSorted, AreWithin}
use Rattle.rs_code.proofs.turns.TableOrder.{four_below, quarter_of}
use Rattle.rs_code.proofs.turns.TurnFactors.{all-factors}
use Rattle.rs_code.proofs.turns.factors_by_turns.Goals as goal

pub reversed_places-requires : goal.reversed_places-requires
reversed_places-requires g c =
    let p = quarter_of _ _ c.requires.len c.requires.table.power c.requires.many in
    (p.0, p.1)

pub sorted_by_turns-requires-clause-power : goal.sorted_by_turns-requires-clause-power
sorted_by_turns-requires-clause-power g c =
    let p = quarter_of _ _ c.requires.len c.requires.table.power c.requires.many in
    (p.0, ap length c.deref.ensures.value ∙ c.in_ok-fours.ensures.len ∙ p.1)

pub sorted_by_turns-requires-clause-size : goal.sorted_by_turns-requires-clause-size
sorted_by_turns-requires-clause-size g c =
    let p = quarter_of _ _ c.requires.len c.requires.table.power c.requires.many in
    omega (arith, ap length c.deref.ensures.value, c.in_ok-fours.ensures.len, p.2, c.requires.len, c.requires.table.size)

pub values_of-requires-clause-power : goal.values_of-requires-clause-power
values_of-requires-clause-power g c =
    let p = quarter_of _ _ c.requires.len c.requires.table.power c.requires.many in
    (p.0, p.1)

pub values_of-requires-clause-size : goal.values_of-requires-clause-size
values_of-requires-clause-size g c =
    let p = quarter_of _ _ c.requires.len c.requires.table.power c.requires.many in
    omega (arith, p.2, c.requires.len, c.requires.table.size)

pub values_of-requires-clause-few : goal.values_of-requires-clause-few
values_of-requires-clause-few g c =
    let d = g.D.EvaluationDomain.domain c.args.domain in
    let lawful = lawful_domain g.met.F.Field.field_laws g.met.F.FftField.roots_law (g.met.D.EvaluationDomain.lawful c.args.domain) in
    subst (λ q. AreWithin q c.in_ok-sorted.sorted) (ap length c.deref.ensures.value ∙ c.in_ok-fours.ensures.len)
    (c.in_ok-sorted.ensures d c.requires.subgroup (order lawful) c.requires.table).within

pub fill-requires-clause-factors : goal.fill-requires-clause-factors
fill-requires-clause-factors g c =
    let p = quarter_of _ _ c.requires.len c.requires.table.power c.requires.many in
    omega (arith, ap length c.as_mut_slice.ensures.value, c.in_ok-factors.ensures, ap length c.deref-2.ensures.value, c.in_ok-fours.ensures.len, p.2)

pub fill-requires-clause-erased : goal.fill-requires-clause-erased
fill-requires-clause-erased g c =
    let p = quarter_of _ _ c.requires.len c.requires.table.power c.requires.many in
    omega (arith, ap length c.deref-2.ensures.value, c.in_ok-fours.ensures.len, p.2)

pub fill-requires-clause-fours : goal.fill-requires-clause-fours
fill-requires-clause-fours g c =
    let p = quarter_of _ _ c.requires.len c.requires.table.power c.requires.many in
    let wide = ap length c.deref-2.ensures.value ∙ c.in_ok-fours.ensures.len in
    four_below c.deref-2.result.now (p.0, wide ∙ p.1)
    (λ levels j e l. ap (λ xs. get_or xs j 0) c.deref-2.ensures.value ∙ c.in_ok-fours.ensures.places levels j (sym wide ∙ e) (omega (arith, l, wide)))

pub returns : goal.returns
returns g c =
    let K = g.F.Field.field in
    let N = g.met.F.Field.field_laws in
    let d = g.D.EvaluationDomain.domain c.args.domain in
    let lawful = lawful_domain N g.met.F.FftField.roots_law (g.met.D.EvaluationDomain.lawful c.args.domain) in
    let table = c.args.table.now in
    let marks = c.args.erased.now in
    let n = length marks in
    let q = n / 4 in
    let p = quarter_of _ _ c.requires.len c.requires.table.power c.requires.many in
    let s = c.in_ok-sorted.sorted in
    let v = c.in_ok-values.values in
    let inverse = c.size_inv.result in
    let sorted : AreSorted K d q marks s =
    subst (λ m. AreSorted K d m marks s) (ap length c.deref.ensures.value ∙ c.in_ok-fours.ensures.len) (c.in_ok-sorted.ensures d c.requires.subgroup (order lawful) c.requires.table) in
    let new = c.fill.new.factors in
    let back : take c.in_ok-factors.factors.len (new ++ drop (length new) c.in_ok-factors.factors.items) ≡ new =
    written_back new _ _ (omega (arith, c.fill.auto.factors, c.as_mut_slice.ensures.len)) in
    let long : length new ≡ d.size = omega (arith, c.fill.auto.factors, ap length c.as_mut_slice.ensures.value, c.in_ok-factors.ensures, c.requires.len) in
    let made = all-factors K N d q p.0 p.1 (order lawful) c.requires.subgroup (omega (arith, p.2, c.requires.len)) (omega (arith, c.requires.many, c.requires.len)) table c.requires.table
    marks c.requires.len s sorted inverse (N.times_comm inverse (natural K d.size) ∙ c.size_inv.ensures) v c.in_ok-values.ensures.values
    c.deref-2.result.now new (ap length c.deref-2.ensures.value ∙ c.in_ok-fours.ensures.len)
    (λ j l. ap (λ xs. get_or xs j 0) c.deref-2.ensures.value ∙ c.in_ok-fours.ensures.places p.0 j p.1 l)
    c.fill.ensures.made in
    record {
      factors = record {
        len = ap length back ∙ long;
        each = λ i l. subst (λ x. IsFactor K (lost K d marks) (element K d i) (get_or marks i true) x) (sym (ap (λ xs. of_list K xs i) back)) (made i l);
      };
    }
