use Rattle.std.proofs.Common.{arith, rules, refl, false, inl, inr}
use Rattle.ark_math.specs.Domain.{IsDomain}
use Rattle.ark_math_transforms.proofs.Domains.Domains.{radix2_is_domain}
use Rattle.ark_math_domains.proofs.Domains.LawfulDomains.{lawful_domain, elements_differ}
use Rattle.rs_code.specs.Code.{IsCode}
use Rattle.shards_lib.proofs.DomainSizes.{same_domain, number_domain, domain_room, has_size, no_size_below}
use Rattle.shards_lib.proofs.stripes.RowCodeStripeCode.new.Goals as goal

pub invariant_of-result : goal.invariant_of-result
invariant_of-result g c =
    let K = g.F.Field.field in
    let N = g.met.F.Field.field_laws in
    let s = g.F.FftField.adicity in
    let root = g.F.FftField.root in
    let n = c.args.n in
    let domain = c.in_ok-domain.domain in
    let code = c.in_ok-code.code in
    let d = code.domain in
    let is_code : IsCode K s root code = search rules in
    let L : IsDomain K s root d = is_code.lawful in
    let D = radix2_is_domain K s root g.met.F.Field.equality_law domain.coset.splits domain.even domain.coset.root_is domain.coset.offset_not_zero in
    let chosen = c.in_ok-code.ensures.chosen in
    let offset = c.in_ok-code.ensures.subgroup in
    let items = c.in_ok-code.ensures.items in
    let no_lanes = c.if-this-eq0.false in
    let no_items = c.if-k-eq0.false in
    let enough = c.if-n-k.false in
    let few = c.if-n-gt65536.false in
    record {
      some = omega (arith, items, no_items);
      fits = omega (arith, items, enough);
      few = omega (arith, few);
      room = domain_room K s root n d chosen;
      differ = elements_differ (lawful_domain N g.met.F.FftField.roots_law L);
      over = number_domain K s root n d L chosen offset (omega (arith, few));
      same = same_domain K s root n _ d D L c.in_ok-domain.ensures.chosen chosen c.in_ok-domain.ensures.subgroup offset;
      wide = omega (arith, no_lanes);
    }

-- each n up to 2^16 has a size
pub returns-in_err-domain-clause-exists : goal.returns-in_err-domain-clause-exists
returns-in_err-domain-clause-exists g c =
    let few = c.if-n-gt65536.false in
    absurd (has_size g.F.FftField.adicity c.args.n g.met.F.NumberField.has_domains (omega (arith, few)) (c.in_err-domain.ensures.none.0 (refl {a = false})))

-- and not one below k
pub returns-in_err-code-clause-exists : goal.returns-in_err-code-clause-exists
returns-in_err-code-clause-exists g c =
    let s = g.F.FftField.adicity in
    let n = c.args.n in
    let few = c.if-n-gt65536.false in
    let no_items = c.if-k-eq0.false in
    let enough = c.if-n-k.false in
    absurd (elim (c.in_err-code.ensures.none.0 (refl {a = false})) [
      | inl zero ↦ omega (arith, zero, no_items)
      | inr none ↦ elim none [
        | inl no_size ↦ has_size s n g.met.F.NumberField.has_domains (omega (arith, few)) no_size
        | inr below ↦ no_size_below s c.args.k n (omega (arith, enough)) below
      ]
    ])
