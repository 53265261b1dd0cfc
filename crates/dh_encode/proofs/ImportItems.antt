-- Imports, item by item.
use Rattle.std.specs.Prelude.{◌≡◌, ◌+◌, ℕ, List, [], ◌∷◌, ◌++◌, length, Result, OnOk}
use Rattle.std.specs.List.{concat}
use Rattle.std.proofs.Common.{arith}
use Rattle.dh_syntax.specs.declared.locations.Import.{Import}
use Rattle.dh_syntax.specs.Bytes.Binary.{digest_item, mode_code, loc_items, import_item}
use Rattle.dh_syntax.specs.Bytes.Cbor.{head, natural, null}
use Rattle.dh_encode.proofs.Appends.{then, last, and_items, array_written}

pub import_written : {E : Type 0} (r : Result (Unit {0}) E) (a b c d e f : List ℕ) (i : Import) (n k : ℕ) → b ≡ a ++ head 4 n → n ≡ 3 + k → k ≡ length (loc_items i.loc) → c ≡ b ++ natural 24
    → d ≡ c ++ digest_item i.digest → e ≡ d ++ natural (mode_code i.mode) → OnOk r (f ≡ e ++ concat (loc_items i.loc)) → OnOk r (f ≡ a ++ import_item i)
import_written r a b c d e f i n k p m q s t u h =
    array_written r a b f n (natural 24 ∷ digest_item i.digest ∷ natural (mode_code i.mode) ∷ loc_items i.loc) p (omega arith)
    (then r b c f (natural 24) (concat (digest_item i.digest ∷ natural (mode_code i.mode) ∷ loc_items i.loc)) s
    (then r c d f (digest_item i.digest) (concat (natural (mode_code i.mode) ∷ loc_items i.loc)) t
    (then r d e f (natural (mode_code i.mode)) (concat (loc_items i.loc)) u h)))

pub url_written : {E : Type 0} (r : Result (Unit {0}) E) (a b c d e f x host q : List ℕ) (texts : List (List ℕ)) → b ≡ a ++ x → c ≡ b ++ null → d ≡ c ++ host → e ≡ d ++ concat texts
    → OnOk r (f ≡ e ++ q) → OnOk r (f ≡ a ++ concat (x ∷ null ∷ host ∷ texts ++ q ∷ []))
url_written r a b c d e f x host q texts k l m n h =
    then r a b f x (concat (null ∷ host ∷ (texts ++ q ∷ []))) k
    (then r b c f null (concat (host ∷ (texts ++ q ∷ []))) l
    (then r c d f host (concat (texts ++ q ∷ [])) m (and_items r d e f texts (q ∷ []) n (last r e f q h))))
