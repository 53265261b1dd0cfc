-- Keys in a row.
use Rattle.std.proofs.Common.{◌≡◌, ◌+◌, ◌*◌, List, [], ◌∷◌, ◌++◌, map, length, None, refl, ap, sym, ◌∙◌, append_assoc, append-nil, arith}
use Rattle.dh_syntax.specs.Text.Noting.{keys_len}
use Rattle.dh_grammar.specs.Machine.{one_of}
use Rattle.dh_making.specs.declared.words.EntryKey.{EntryKey}
use Rattle.dh_making.specs.Words.{key_of, keys_on}
use Rattle.dh_syntax.specs.Expressions.Tree.{Name}
use Rattle.dh_syntax.specs.Text.Derivation.{Key, key_label, Keys, one_key, more_keys, labels}

pub keys_push : (ks : Keys) (more : List (EntryKey)) (k : EntryKey) → keys_on ks (more ++ k ∷ []) ≡ more_keys (keys_on ks more) (key_of k)
keys_push ks [] k = refl
keys_push ks (j ∷ more) k = keys_push (more_keys ks (key_of j)) more k

pub keys_pushed : (ks : Keys) (old new : List (EntryKey)) (k : EntryKey) → new ≡ old ++ k ∷ [] → keys_on ks new ≡ more_keys (keys_on ks old) (key_of k)
keys_pushed ks old new k e = ap (keys_on ks) e ∙ keys_push ks old k

not_only : (ks : Keys) (k : Key) (more : List (EntryKey)) → one_of (keys_on (more_keys ks k) more) ≡ None
not_only ks k [] = refl
not_only ks k (j ∷ more) = not_only (more_keys ks k) (key_of j) more

pub several_keys : (k : Key) (more : List (EntryKey)) → (more ≡ [] → ⊥) → one_of (keys_on (one_key k) more) ≡ None
several_keys k [] h = absurd (h refl)
several_keys k (j ∷ more) h = not_only (one_key k) (key_of j) more

-- the labels of keys that follow others
abbrev pub labels_of : List (EntryKey) → List Name
labels_of more = map (λ k. key_label (key_of k)) more

pub key_labels : (ks : Keys) (more : List (EntryKey)) → labels (keys_on ks more) ≡ labels ks ++ labels_of more
key_labels ks [] = sym (append-nil (labels ks))
key_labels ks (k ∷ more) = key_labels (more_keys ks (key_of k)) more ∙ append_assoc (labels ks) (key_label (key_of k) ∷ []) (labels_of more)

-- how many tokens keys take
pub keys_len_on : (ks : Keys) (more : List EntryKey) → length more * 2 + keys_len ks ≡ keys_len (keys_on ks more)
keys_len_on ks [] = omega arith
keys_len_on ks (k ∷ more) = let rest = keys_len_on (more_keys ks (key_of k)) more in omega arith ∙ rest
