-- The domain that a coset is, once its kind is known.
use Rattle.ark_math.specs.Domain.{Kind, Domain, domain_of}
use Rattle.ark_fft.specs.declared.domain.coset.Coset.{Coset}

-- what a coset keeps of the field, in the unnamed arguments, is no part of the domain
abbrev pub coset_domain : {F : Type 0} {a b c d e f g h i j k l m n o p q r s t u : _} → Kind → Coset F a b c d e f g h i j k l m n o p q r s t u → Domain F
coset_domain kind coset = domain_of kind coset.size coset.group_gen coset.offset
