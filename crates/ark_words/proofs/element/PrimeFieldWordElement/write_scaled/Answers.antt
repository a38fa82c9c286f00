use Rattle.std.proofs.Common.{◌%◌, ap, sym, ◌∙◌, one-mul, mod-eq_of_lt}
use Rattle.ark_words.proofs.element.PrimeFieldWordElement.write_scaled.Goals as goal

pub returns : goal.returns
returns g c =
    c.write_words.ensures
    ∙ sym (ap (λ n. n % g.M.PrimeModulus.MODULUS) (one-mul c.args.self.value) ∙ mod-eq_of_lt c.args.self.reduced)
