use Rattle.std.proofs.Common.{◌≡◌, ◌-◌, ◌+◌, ◌<◌, ◌≤◌, length, map, sym, ap, ap₂, ◌∙◌, refl, arith}
use Rattle.ark_math.specs.Module.{item}
use Rattle.ark_math.proofs.Lists.Lists.{read_as, written_same, written_other}
use Rattle.rs_code.proofs.Locators.{value}
use Rattle.rs_code.proofs.Parts.{value-carried}
use Rattle.rs_code.proofs.part.fold.Goals as goal

pub loop-i-init : goal.loop-i-init
loop-i-init g c = record { within = c.requires.fits; values = λ x one. refl }

pub loop-i-preserved : goal.loop-i-preserved
loop-i-preserved g c =
    let K = g.F.Field.field in
    let V = g.T.DomainCoeff.group in
    let m = g.T.DomainCoeff.meaning in
    let xs = c.loop-i.coeffs in
    let n = c.args.m in
    let i = c.loop-i.i - 1 in
    let past : n ≤ i = let t = c.loop-i-test.true in omega arith in
    let inside : i < length xs = let t = c.loop-i-test.true in omega arith in
    let below : i - n < length xs = omega arith in
    let one_more : c.loop-i.i ≡ i + 1 = let t = c.loop-i-test.true in omega arith in
    let high = read_as m V.zero xs i c.index-coeffs-i.result inside c.index-coeffs-i.is in
    let low = read_as m V.zero xs (i - n) c.index-coeffs-i-in-loop-i.result below c.index-coeffs-i-in-loop-i.is in
    let is : m c.add_assign.new.self ≡ V.plus (item V (map m xs) (i - n)) (item V (map m xs) i) =
    g.met.T.DomainCoeff.add_assign_meaning _ _ _ c.add_assign.ensures.after
    ∙ ap₂ V.plus (ap m (sym c.index-coeffs-i-in-loop-i.is) ∙ low) high in
    record {
      within = past;
      values = λ x one.
          value-carried g.met.F.Field.field_laws g.met.T.DomainCoeff.module_laws i n x (item V (map m xs)) _ c.requires.positive past one
          (written_same m V.zero xs (i - n) c.add_assign.new.self below ∙ is)
          (λ k ne. written_other m V.zero xs (i - n) k c.add_assign.new.self ne)
          ∙ ap (λ k. value K V k (item V (map m xs)) x) (sym one_more)
          ∙ c.loop-i.invariant.values x one;
    }

pub returns : goal.returns
returns g c = λ x one.
    let K = g.F.Field.field in
    let V = g.T.DomainCoeff.group in
    let m = g.T.DomainCoeff.meaning in
    let end : c.args.m ≡ c.loop-i.i = let t = c.loop-i-test.false in let h = c.loop-i.invariant.within in omega arith in
    ap (λ k. value K V k (item V (map m c.loop-i.coeffs)) x) end ∙ c.loop-i.invariant.values x one
