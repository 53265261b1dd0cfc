-- The keys of an entry that follow the first one.
use Rattle.std.proofs.Common.{◌≡◌, ℕ, suc, ◌+◌, ◌*◌, List, [], ◌∷◌, ◌++◌, length, refl, ap, sym, ◌∙◌, arith}
use Rattle.dh_syntax.specs.Expressions.Tree.{Name}
use Rattle.dh_syntax.specs.Text.Derivation.{Keys, one_key, more_keys, key_label}
use Rattle.dh_syntax.specs.Text.Noting.{Noting, Stand, keys_len, later_keys, first_label, records_round, skip}
use Rattle.dh_grammar.proofs.TokenNumbers.{skip-plus}
use Rattle.dh_grammar.specs.Placing.{Placed, back, given}
use Rattle.dh_making.specs.declared.words.EntryKey.{EntryKey}
use Rattle.dh_making.specs.Words.{key_of, keys_on}
use Rattle.dh_places.specs.Inside.Later.{later, position}

-- how many keys follow the first one
abbrev count_later : Keys → ℕ
count_later (one_key k) = 0
count_later (more_keys ks k) = suc (count_later ks)

length_keys : (ks : Keys) → keys_len ks ≡ count_later ks * 2 + 1
length_keys (one_key k) = refl
length_keys (more_keys ks k) = let h = length_keys ks in omega arith

later_by_count : (ks : Keys) (i : ℕ) → later_keys ks i ≡ later (count_later ks) i
later_by_count (one_key k) i = refl
later_by_count (more_keys ks k) i =
    let h = length_keys ks in
    let s = skip-plus (keys_len ks) i in
    let at : suc (skip (keys_len ks) i) ≡ position (count_later ks) i = omega arith in
    ap (λ is. is ++ suc (skip (keys_len ks) i) ∷ []) (later_by_count ks i) ∙ ap (λ n. later (count_later ks) i ++ n ∷ []) at

count_on : (ks : Keys) (more : List EntryKey) → count_later (keys_on ks more) ≡ length more + count_later ks
count_on ks [] = omega arith
count_on ks (k ∷ more) = let h = count_on (more_keys ks (key_of k)) more in omega arith

pub later_on : (k : EntryKey) (more : List EntryKey) (i : ℕ) → later_keys (keys_on (one_key (key_of k)) more) i ≡ later (length more) i
later_on k more i =
    let h = count_on (one_key (key_of k)) more in
    let n : count_later (keys_on (one_key (key_of k)) more) ≡ length more = omega arith in
    later_by_count (keys_on (one_key (key_of k)) more) i ∙ ap (λ m. later m i) n

pub first_on : (ks : Keys) (more : List EntryKey) → first_label (keys_on ks more) ≡ first_label ks
first_on ks [] = refl
first_on ks (k ∷ more) = first_on (more_keys ks (key_of k)) more

module _ (notes : Noting) where
  abbrev pub stand : notes.row → ℕ → ℕ → Stand notes
  stand v from to = record { value = v; from = from; to = to }

  pub given_entry : (k : EntryKey) (more : List EntryKey) (ks : Keys) (x : Placed notes) (label : Name) (n from : ℕ) (v : notes.row) →
      ks ≡ keys_on (one_key (key_of k)) more → label ≡ key_label (key_of k) → n ≡ length more → from ≡ back (keys_len ks) (back 1 x.first) →
      v ≡ records_round notes (later n from) x.last x.nodes →
      (label, stand v from x.last) ≡ given notes ks (back (keys_len ks) (back 1 x.first)) x
  given_entry k more ks x label n from v whole l count begin value =
      let at = back (keys_len ks) (back 1 x.first) in
      let labels : label ≡ first_label ks = l ∙ sym (ap first_label whole ∙ first_on (one_key (key_of k)) more) in
      let keys : later n from ≡ later_keys ks from =
      ap (λ m. later m from) count ∙ sym (later_on k more from) ∙ ap (λ js. later_keys js from) (sym whole) in
      ap (λ y. (y, stand v from x.last)) labels
      ∙ ap (λ w. (first_label ks, stand w from x.last)) (value ∙ ap (λ is. records_round notes is x.last x.nodes) keys)
      ∙ ap (λ i. (first_label ks, stand (records_round notes (later_keys ks i) x.last x.nodes) i x.last)) begin
