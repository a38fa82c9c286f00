use Rattle.ark_prime256.proofs.Draws.{drawn_element}
use Rattle.ark_prime256.proofs.prime_field.PrimeField256Field.rand.Goals as goal

pub returns : goal.returns
returns g c =
    record {
      drawn = drawn_element g.M.PrimeModulus256.modulus _ _ _ c.draw_words-low.result c.draw_words-high.result c.R.result
          c.reduce-low.result c.reduce-high.result c.reduce-shift.result c.mul.result c.add.result
          c.draw_words-low.ensures c.draw_words-high.ensures c.R.ensures c.reduce-low.ensures c.reduce-high.ensures c.reduce-shift.ensures c.mul.ensures c.add.ensures;
    }
