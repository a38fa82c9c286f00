-- What holds of a result where it is `Ok` or `Err`.
use Rattle.std.proofs.Common.{◌≡◌, Result, Ok, Err, OnOk, OnErr, IfOk, IfErr, subst, sym}

pub err_any : {T E : Type 0} (r : Result T E) (P : Type 0) → P → OnErr r P
err_any (Ok x) P p = tt
err_any (Err e) P p = p

pub ok_any : {T E : Type 0} (r : Result T E) (P : Type 0) → P → OnOk r P
ok_any (Ok x) P p = p
ok_any (Err e) P p = tt

pub ok_map : {T E : Type 0} (r : Result T E) (P Q : Type 0) → (P → Q) → OnOk r P → OnOk r Q
ok_map (Ok x) P Q f p = f p
ok_map (Err e) P Q f p = tt

pub err_map : {T E : Type 0} (r : Result T E) (P Q : Type 0) → (P → Q) → OnErr r P → OnErr r Q
err_map (Ok x) P Q f p = tt
err_map (Err e) P Q f p = f p

-- what is known of a result that is `Ok` or `Err`
pub of_ok : {T E : Type 0} (P : T → Type 0) (r : Result T E) (x : T) → r ≡ Ok x → IfOk r P → P x
of_ok P r x is p = subst (λ t. IfOk t P) is p

pub of_err : {T E : Type 0} (P : Type 0) (r : Result T E) (e : E) → r ≡ Err e → OnErr r P → P
of_err P r e is p = subst (λ t. OnErr t P) is p

pub if_err : {T E : Type 0} (r : Result T E) (e : E) (P : E → Type 0) → r ≡ Err e → P e → IfErr r P
if_err r e P is p = subst (λ t. IfErr t P) (sym is) p

-- what follows from what holds of an answer
pub if_ok_map : {T E : Type 0} (r : Result T E) (P Q : T → Type 0) → ((x : T) → P x → Q x) → IfOk r P → IfOk r Q
if_ok_map (Ok x) P Q f p = f x p
if_ok_map (Err e) P Q f p = tt

pub if_err_map : {T E : Type 0} (r : Result T E) (P Q : E → Type 0) → ((e : E) → P e → Q e) → IfErr r P → IfErr r Q
if_err_map (Ok x) P Q f p = tt
if_err_map (Err e) P Q f p = f e p
