-- What is written and read of evaluations: the list and the domain, and no spelling where these don't fit.
use Rattle.std.proofs.Common.{◌≡◌, ◌≢◌, List, length, map, Result, sym, ap, subst, ◌∙◌}
use Rattle.std.proofs.lemmas.List.{length-map}
use Rattle.ark_math_formats.specs.Format.{Format, IsFormat, Tells, ◌⊗◌, list}
use Rattle.ark_univariate.specs.Layouts.{evaluations}
use Rattle.ark_math.specs.Domain.{Domain}
use Rattle.ark_math_formats.proofs.Formats.Ends.{list_is_format}
use Rattle.ark_math_formats.proofs.Formats.OneToOne.{pair_shows, list_shows}
use Rattle.ark_bytes.specs.declared.error.SerializationError.{SerializationError}
use Rattle.ark_bytes.specs.Writing.{SinkState, PutsSpelling, Stops, Writes}
use Rattle.ark_bytes.specs.Reading.{SourceState, Refuses, TakesSpelling, TakesFault}
use Rattle.ark_bytes.proofs.Writing.{stops_before, write_pair, write_fields}
use Rattle.ark_bytes.proofs.Reading.{refused_first, refused_second, refused_weaker, read_pair, refused_fields, unlawful}
use Rattle.ark_univariate.specs.Values.{Values, list_and_domain, AreAsMany}

module _ {F D : Type 0} (e : Format F) (d : Format D) (domain : D → Domain F) where
  -- writing stopped in the list
  pub stopped_in_list : (a b : SinkState) (v : Values F D) (us : List F) (error : SerializationError) → us ≡ v.evals → Stops ((list e).spelling us) a b error
      → Stops ((evaluations e d list_and_domain (AreAsMany domain)).spelling v) a b error
  stopped_in_list a b v us error same s =
      stops_before a b ((list e).spelling v.evals) (d.spelling v.domain) error (subst (λ l. Stops ((list e).spelling l) a b error) same s)

  -- both were written, or writing stopped in the domain
  pub written : {A : Type 0} (a b c : SinkState) (v : Values F D) (us : List F) (x : D) (r : Result A SerializationError) → us ≡ v.evals → x ≡ v.domain → AreAsMany domain v
      → PutsSpelling (list e) a b us → Writes d x b c r → Writes (evaluations e d list_and_domain (AreAsMany domain)) v a c r
  written a b c v us x r same here many p w =
      write_fields (list e ⊗ d) list_and_domain (AreAsMany domain) a c v r many
      (write_pair (list e) d a b c v.evals v.domain r (subst (PutsSpelling (list e) a b) same p) (subst (λ y. Writes d y b c r) here w))

  module _ (E : IsFormat e) where
    pub refused_in_list : (a b : SourceState) (error : SerializationError) → Refuses (list e) (Unit {0}) a b error → Refuses (evaluations e d list_and_domain (AreAsMany domain)) (Unit {0}) a b error
    refused_in_list a b error r =
        refused_fields (list e ⊗ d) list_and_domain (AreAsMany domain) (Unit {0}) a b error (refused_first (list e) d (list_is_format e E) (Unit {0}) a b error r)

    pub refused_in_domain : (M : Type 0) (a b c : SourceState) (us : List F) (error : SerializationError) → TakesSpelling (list e) a b us → Refuses d M b c error
        → Refuses (evaluations e d list_and_domain (AreAsMany domain)) (Unit {0}) a c error
    refused_in_domain M a b c us error t r =
        refused_fields (list e ⊗ d) list_and_domain (AreAsMany domain) (Unit {0}) a c error
        (refused_second (list e) d (list_is_format e E) (Unit {0}) a b c us error t (refused_weaker d M (Unit {0}) (λ m. tt) b c error r))

    module _ {V : Type 0} (view : F → V) (one : Tells view e) (two : Tells domain d) where
      other_count : (us vs : List F) (x y : D) → (list e ⊗ d).HasSpelling (us, x) → (list e ⊗ d).HasSpelling (vs, y) → (list e ⊗ d).spelling (us, x) ≡ (list e ⊗ d).spelling (vs, y)
          → length us ≢ (domain x).size → length vs ≡ (domain y).size → ⊥
      other_count us vs x y p q same unlike alike =
          let shows = pair_shows (list e) d (list_is_format e E) (map view) domain (list_shows e E view one) two (us, x) (vs, y) p q same in
          let lengths : length us ≡ length vs = sym (length-map us view) ∙ ap (λ v. length v.0) shows ∙ length-map vs view in
          unlike (lengths ∙ alike ∙ sym (ap (λ v. v.1.size) shows))

      -- as many values as the domain has elements, or no spelling
      pub misfit : (a b c : SourceState) (us : List F) (x : D) → length us ≢ (domain x).size → TakesSpelling (list e) a b us → TakesSpelling d b c x
          → TakesFault (evaluations e d list_and_domain (AreAsMany domain)) a c
      misfit a b c us x unlike s t =
          let both = read_pair (list e) d (list_is_format e E) a b c us x s t in
          unlawful (list e ⊗ d) list_and_domain (AreAsMany domain) a c (us, x)
          (λ v has alike same. other_count us v.evals x v.domain both.has has same unlike alike) both
