-- What a search in a list finds.
use Rattle.std.proofs.Common.{◌≡◌, Bool, true, false, cond, List, [], ◌∷◌, All, find, Option, Some, None, unwrap_or, Result, Ok, Err, IfOk, refl, sym, ◌∙◌, ap, subst}
use Rattle.std.proofs.lemmas.List.Elements.{All-head, All-tail}

pub find_keeps : {X : Type 0} (P : X → Type 0) (test : X → Bool) (xs : List X) (x : X) → All P xs → find test xs ≡ Some x → P x
find_keeps P test [] x h e = absurd cc
find_keeps P test (y ∷ ys) x h e = by (find_keeps P test ys x (All-tail P y ys h)) (test y) refl
  where
    by : (find test ys ≡ Some x → P x) → (b : Bool) → test y ≡ b → P x
    by r true f =
        let same : Some y ≡ Some x = sym (ap (λ b. cond b (Some y) (find test ys)) f) ∙ e in
        subst P (ap (λ o. unwrap_or o y) same) (All-head P y ys h)
    by r false f = r (sym (ap (λ b. cond b (Some y) (find test ys)) f) ∙ e)

pub ok_same : {X E : Type 0} (P : X → Type 0) (r : Result X E) (x : X) → IfOk r (λ c. c ≡ x) → P x → IfOk r P
ok_same P (Ok c) x e h = subst P (sym e) h
ok_same P (Err f) x e h = tt
