-- Lists of slots and of notes, and what one slot comes to.
use Rattle.std.proofs.Common.{◌≡◌, ℕ, ◌<◌, List, length, map, get_or, set, sym, ◌∙◌, ap, subst}
use Rattle.std.specs.Prelude.{Option, Some, None}
use Rattle.std.proofs.lemmas.List.{get_or-map, map-set}
use Rattle.std.proofs.Math.Seq.{map-set_same}
use Rattle.dh_shelf.specs.declared.slots.Offered.{Offered}
use Rattle.dh_shelf.specs.declared.slots.Offered.TheVariants as offers
use Rattle.dh_record.specs.Entries.{EntryParts}
use Rattle.dh_shelf.specs.Inside.{IsCompared, IsOffered, IsSame}
use Rattle.once_cell.specs.Once.{Agrees}
use Rattle.std.specs.Prelude.{IfSome}
use Rattle.dh_shelf.specs.Shelves.{Agree, IsOther}

-- what two lists show at one place is the same where they show the same at all
pub same_at : {A B : Type 0} (f : A → ℕ) (g : B → ℕ) (xs : List A) (ys : List B) (i n : ℕ) (x : A) (y : B)
    → map f xs ≡ map g ys → length xs ≡ n → length ys ≡ n → i < n → x ≡ get_or xs i x → y ≡ get_or ys i y → f x ≡ g y
same_at f g xs ys i n x y e p q h a b =
    ap f a ∙ (sym (get_or-map f xs i x 0 (subst (λ m. i < m) (sym p) h)) ∙ (ap (λ zs. get_or zs i 0) e ∙ (get_or-map g ys i y 0 (subst (λ m. i < m) (sym q) h) ∙ sym (ap g b))))

-- a list shows the same where an element gives way to one that shows the same
pub same_shown : {A : Type 0} (f : A → ℕ) (xs : List A) (i : ℕ) (x y : A) → x ≡ get_or xs i x → f y ≡ f x → map f (set xs i y) ≡ map f xs
same_shown f xs i x y a e = map-set_same f xs i y x (e ∙ ap f a)

-- what a list shows where an element gives way to another
pub shown_set : {A B : Type 0} (f : A → B) (xs : List A) (i : ℕ) (y : A) (b : B) → f y ≡ b → map f (set xs i y) ≡ set (map f xs) i b
shown_set f xs i y b e = map-set f xs i y ∙ ap (set (map f xs) i) e

-- an entry of the digest was compared, or one of another
pub compared_offered : (e theirs : EntryParts) (before after : Option EntryParts) (o : Offered) → IsCompared e theirs o → after ≡ Some theirs → IsOffered e before after o
compared_offered e theirs before after offers.Took h p = elim h [ ]
compared_offered e theirs before after offers.There h p = subst (IsSame e.digest) (sym p) h
compared_offered e theirs before after (offers.Other back) h p = (h.0, subst (IsOther e.digest) (sym p) h.1)
compared_offered e theirs before after (offers.Memory back) h p = elim h [ ]

pub offered_at : (e : EntryParts) (before before' after after' : Option EntryParts) (o : Offered) → before ≡ before' → after ≡ after' → IsOffered e before after o → IsOffered e before' after' o
offered_at e before before' after after' o p q h = subst (λ b. IsOffered e b after' o) p (subst (λ a. IsOffered e before a o) q h)

pub both_agree : (a b : Option EntryParts) → IfSome b (Agrees a) → Agree a b
both_agree None b h = tt
both_agree (Some e) None h = tt
both_agree (Some e) (Some f) h = h
