-- The domains that the three domain types are, as contracts see them.
use Rattle.ark_math.specs.Domain.{Domain, radix2, mixed_radix}
use Rattle.ark_fft.specs.Coset.{coset_domain}
use Rattle.ark_univariate.specs.declared.domain.radix2.Radix2EvaluationDomain.{Radix2EvaluationDomain}
use Rattle.ark_univariate.specs.declared.domain.mixed_radix.MixedRadixEvaluationDomain.{MixedRadixEvaluationDomain}
use Rattle.ark_univariate.specs.declared.domain.general.GeneralEvaluationDomain.{GeneralEvaluationDomain}
use Rattle.ark_univariate.specs.declared.domain.general.GeneralEvaluationDomain.TheVariants.{Radix2, MixedRadix}

-- what a type keeps of the field, in the unnamed arguments, is no part of the domain

abbrev pub radix2_domain : {F : Type 0} {a b c d e f g h i j k l m n o p q r s t u : _} → Radix2EvaluationDomain F a b c d e f g h i j k l m n o p q r s t u → Domain F
radix2_domain domain = coset_domain radix2 domain.coset

abbrev pub mixed_radix_domain : {F : Type 0} {a b c d e f g h i j k l m n o p q r s t u : _} → MixedRadixEvaluationDomain F a b c d e f g h i j k l m n o p q r s t u → Domain F
mixed_radix_domain domain = coset_domain mixed_radix domain.coset

-- of either kind
abbrev pub general_domain : {F : Type 0} {a b c d e f g h i j k l m n o p q r s t u : _} → GeneralEvaluationDomain F a b c d e f g h i j k l m n o p q r s t u → Domain F
general_domain (Radix2 domain) = radix2_domain domain
general_domain (MixedRadix domain) = mixed_radix_domain domain
