-- What is repeated grows to the right.
use Rattle.std.proofs.Common.{◌≡◌, ℕ, suc, Bool, List, ◌∷◌, ◌++◌, refl}
use Rattle.std.specs.Prelude.{IsTrue, Option, Some, None}
use Rattle.std.proofs.lemmas.List.{append_assoc}
use Rattle.dh_syntax.specs.declared.tokens.Mark.TheVariants.{Equals}
use Rattle.dh_syntax.specs.Text.Derivation.{Derivation, NameToken, Key, Note, typed, Lets, Items, Alternatives, Fields, Entry, Entries}
use Rattle.dh_syntax.specs.Text.Derived.{derived, note_derived, lets_derived, items_derived, alternatives_derived, fields_derived, entry_derived, entries_derived, chunks_derived}
use Rattle.dh_syntax.specs.Text.Yield.{Written, mark, name, key, free, apart, yield, note_yield, lets_yield, items_yield, alternatives_yield, fields_yield, entry_yield, entries_yield, chunks_yield, piece_yield}
use Rattle.dh_grammar.specs.Inside.Before.{let_before, items_before, alternatives_before, fields_before, entries_before, front_before}
use Rattle.dh_grammar.specs.Machine.{opening, behind}
use Rattle.dh_grammar.specs.Trees.{add_let, add_item, add_alternative, add_field, add_entry, Front, sealed}
use Rattle.dh_grammar.specs.Inside.Valid.{D, LetsOk, ItemsOk, EntriesOk, AlternativesOk, FieldsOk, FrontOk}
use Rattle.dh_grammar.proofs.TruthValues.{both}

pub add_let_ok : (ls : Option Lets) (w : NameToken) (a : Note) (x : Derivation) → LetsOk ls → IsTrue (note_derived a) → D x → IsTrue (lets_derived (add_let ls w a x))
add_let_ok None w a x h n d = both (note_derived a) (derived x) n d
add_let_ok (Some ls) w a x h n d = rw (h, n, d)

pub add_item_ok : (is : Option Items) (x : Derivation) → ItemsOk is → D x → IsTrue (items_derived (add_item is x))
add_item_ok None x h d = d
add_item_ok (Some is) x h d = both (items_derived is) (derived x) h d

pub add_entry_ok : (es : Option Entries) (e : Entry) → EntriesOk es → IsTrue (entry_derived e) → IsTrue (entries_derived (add_entry es e))
add_entry_ok None e h d = d
add_entry_ok (Some es) e h d = both (entries_derived es) (entry_derived e) h d

pub add_alternative_ok : (as' : Option Alternatives) (k : Key) (a : Note) → AlternativesOk as' k → IsTrue (note_derived a) → IsTrue (alternatives_derived (add_alternative as' k a))
add_alternative_ok None k a h d = d
add_alternative_ok (Some as') k a h d = rw (h.0, h.1, d)

pub add_field_ok : (fs : Option Fields) (k : Key) (a : Derivation) → FieldsOk fs k → D a → IsTrue (fields_derived (add_field fs k a))
add_field_ok None k a h d = d
add_field_ok (Some fs) k a h d = rw (h.0, h.1, d)

pub sealed_ok : (f : Front) (p : Option (List ℕ)) → FrontOk f → IsTrue (chunks_derived (sealed f p))
sealed_ok opening p h = refl
sealed_ok (behind cs e) p h = both (chunks_derived cs) (derived e) h.0 h.1

pub let_yield : (n : ℕ) (g : Bool) (ls : Option Lets) (w : NameToken) (a : Note) (x : Derivation) (r : List Written) → lets_yield n g (add_let ls w a x) ++ r ≡ let_before n g ls (name n apart w ∷ (note_yield n a ++ (mark n free Equals ∷ (yield (suc n) free x ++ r))))
let_yield n g None w a x r = simp append_assoc
let_yield n g (Some ls) w a x r = simp append_assoc

pub item_yield : (n : ℕ) (is : Option Items) (x : Derivation) (r : List Written) → items_yield n (add_item is x) ++ r ≡ items_before n is (yield (suc n) free x ++ r)
item_yield n None x r = refl
item_yield n (Some is) x r = simp append_assoc

pub alternative_yield : (n : ℕ) (as' : Option Alternatives) (k : Key) (a : Note) (r : List Written) → alternatives_yield n (add_alternative as' k a) ++ r ≡ alternatives_before n as' (key n free k ∷ (note_yield n a ++ r))
alternative_yield n None k a r = refl
alternative_yield n (Some as') k a r = simp append_assoc

pub field_yield : (n : ℕ) (fs : Option Fields) (k : Key) (a : Derivation) (r : List Written) → fields_yield n (add_field fs k a) ++ r ≡ fields_before n fs (key n free k ∷ (note_yield n (typed a) ++ r))
field_yield n None k a r = refl
field_yield n (Some fs) k a r = simp append_assoc

pub added_entry_yield : (n : ℕ) (es : Option Entries) (e : Entry) (r : List Written) → entries_yield n (add_entry es e) ++ r ≡ entries_before n es (entry_yield n e ++ r)
added_entry_yield n None e r = refl
added_entry_yield n (Some es) e r = simp append_assoc

pub sealed_yield : (n : ℕ) (f : Front) (p : Option (List ℕ)) (r : List Written) → chunks_yield n (sealed f p) ++ r ≡ front_before n f (piece_yield n p ++ r)
sealed_yield n opening p r = refl
sealed_yield n (behind cs e) p r = simp append_assoc
