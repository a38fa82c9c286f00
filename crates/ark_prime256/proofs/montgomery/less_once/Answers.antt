use Rattle.std.proofs.Common.{◌≡◌, ◌+◌, ◌-◌, ◌<◌, ◌≤◌, ◌%◌, Bool, true, false, arith, ap, refl, sym, ◌∙◌, mod-eq_of_lt, rules}
use Rattle.std.proofs.lemmas.Grind.{common_steps}
use Rattle.ark_prime256.specs.Words.{integer}
use Rattle.ark_prime256.proofs.Rows.{less_once_is}
use Rattle.ark_prime256.proofs.montgomery.less_once.Goals as goal

pub returns-clause-residue : goal.returns-clause-residue
returns-clause-residue c = by_case c.difference-is_below.result.1 refl
  where
    by_case : (below : Bool) → c.difference-is_below.result.1 ≡ below → integer c.chosen.result ≡ integer c.args.t % integer c.args.p
    by_case true is =
        let lt : integer c.args.t < integer c.args.p = first_of (search rules, grind (arith, common_steps)) in
        ap integer (c.chosen.ensures.first is) ∙ sym (mod-eq_of_lt lt)
    by_case false is =
        let e : integer c.difference-is_below.result.0 + integer c.args.p ≡ integer c.args.t = first_of (search rules, grind (arith, common_steps)) in
        let le : integer c.args.p ≤ integer c.args.t = omega (arith, e) in
        let f : integer c.difference-is_below.result.0 ≡ integer c.args.t - integer c.args.p = omega (arith, e) in
        ap integer (c.chosen.ensures.second is) ∙ f ∙ less_once_is (integer c.args.t) (integer c.args.p) le c.requires
