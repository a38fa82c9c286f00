use Rattle.std.proofs.Common.{◌≡◌, ◌+◌, ◌-◌, ◌<◌, ◌≤◌, ◌%◌, Bool, true, false, arith, ap, refl, rules, le_of_lt}
use Rattle.std.proofs.lemmas.Grind.{common_steps}
use Rattle.ark_prime256.specs.Words.{integer}
use Rattle.ark_prime256.proofs.Rows.{less_wraps, more_stays}
use Rattle.ark_prime256.proofs.montgomery.minus.Goals as goal

pub returns-clause-residue : goal.returns-clause-residue
returns-clause-residue c = by_case c.difference-below.result.1 refl
  where
    by_case : (below : Bool) → c.difference-below.result.1 ≡ below → integer c.sum-over.result.0 ≡ (integer c.args.a + (integer c.args.p - integer c.args.b)) % integer c.args.p
    by_case true is =
        let a = integer c.args.a in
        let b = integer c.args.b in
        let p = integer c.args.p in
        let within : b ≤ p = le_of_lt c.requires.b_in in
        let more : integer c.chosen-more.result ≡ p = ap integer (c.chosen-more.ensures.first is) in
        let less : a < b = first_of (search rules, grind (arith, common_steps)) in
        less_wraps p a b (integer c.sum-over.result.0) within less (first_of (search rules, grind (arith, common_steps)))
    by_case false is =
        let a = integer c.args.a in
        let b = integer c.args.b in
        let p = integer c.args.p in
        let within : b ≤ p = le_of_lt c.requires.b_in in
        let more : integer c.chosen-more.result ≡ integer c.of_word.result = ap integer (c.chosen-more.ensures.second is) in
        let stays : b ≤ a = first_of (search rules, grind (arith, common_steps)) in
        more_stays p a b (integer c.sum-over.result.0) c.requires.a_in within stays (first_of (search rules, grind (arith, common_steps)))
