-- Hosts before a slash, and URLs before what may follow them.
use Rattle.std.proofs.Common.{◌≡◌, ℕ, zero, suc, ◌+◌, ◌-◌, ◌<◌, ◌≤◌, Bool, true, false, not, ◌||◌, ◌&&◌, ◌==◌, eqb, if◌then◌else◌, nat_lt, List, [], ◌∷◌, ◌++◌, length, take, drop, get_or, slice_index, codes, Option, Some, None, append_assoc, length-append, one-add, refl, sym, ap, subst, ◌∙◌, arith}
use Rattle.std.specs.Prelude.{IsTrue, cond}
use Rattle.std.proofs.lemmas.Bool.{and_parts, both_ways, lt-ltb, eqb-true, not-true}
use Rattle.std.proofs.lemmas.Bool.Decides.{nat_tests}
use Rattle.std.proofs.lemmas.List.{length-take-le, drop-drop}
use Rattle.std.proofs.lemmas.List.Sums.{suffix_len-take_no}
use Rattle.std.specs.Char.{is_ascii_alphanumeric, is_ascii_digit}
use Rattle.std.specs.List.{list_all, prefix_len, suffix_len}
use Rattle.dh_syntax.specs.declared.locations.Loc.{Loc}
use Rattle.dh_syntax.specs.declared.locations.Loc.TheVariants as locs
use Rattle.dh_syntax.specs.declared.locations.Url.{Url}
use Rattle.dh_syntax.specs.declared.tokens.TokenKind.TheVariants as kinds
use Rattle.dh_syntax.specs.Expressions.Arity.{has_some}
use Rattle.dh_syntax.specs.Text.Characters.{first, is_host_byte, is_query_byte}
use Rattle.dh_syntax.specs.Text.LexForms.{Is, LeftOut, form}
use Rattle.dh_syntax.specs.Text.LexLocations as loc
use Rattle.dh_syntax.specs.Text.LexLocations.{Components, components, segment, label_len, more_labels, domain_len, port_len, host_len, query_of, query_len, one_or_more, url_form, after_scheme, url}
use Rattle.dh_syntax.specs.Imports.Locations.{slashed, query_text, url_text}
use Rattle.dh_syntax.specs.Expressions.Spellable.{is_host, after_letter, after_hyphen, after_dot, is_segment, query_spellable, url_spellable}
use Rattle.dh_tokens.proofs.FormLaws.{form-some}
use Rattle.dh_tokens.proofs.FrontClassLaws.{code_form-word}
use Rattle.dh_tokens.proofs.FrontWords.{word-url}
use Rattle.dh_layout.proofs.Reading.Ends.{is_seam}
use Rattle.dh_layout.proofs.Reading.Imports.{LocReads}
use Rattle.dh_layout.proofs.Reading.Seams.{run_len, take_front}
use Rattle.dh_layout.proofs.Reading.Urls.{query_read, segments_read, ends_segment}
use Rattle.dh_layout.proofs.Reading.Walk.{give}

-- how many bytes more labels and a port take
abbrev beyond : List ℕ → ℕ
beyond bs = let m = more_labels 0 bs in m + port_len (drop m bs)

-- The rest of a host, so many bytes, inside a label: so many of them are the label's, and the last of these is no `-`. Where
-- none is, the byte before is the last, and may be any where `any` says so.
record Rest (any : Bool) (n : ℕ) (bs : List ℕ) : Type 0 where
  k : ℕ
  run : prefix_len is_host_byte bs ≡ k
  fits : k ≤ length bs
  last : (c : ℕ) → IsTrue (any || not (c == 45)) → (get_or (c ∷ bs) k 0 == 45) ≡ false
  total : k + beyond (drop k bs) ≡ n

letter_byte : (b : ℕ) → is_ascii_alphanumeric b ≡ true → is_host_byte b ≡ true
letter_byte b h = grind (arith, nat_tests)

letter_no_hyphen : (any : Bool) (b : ℕ) → is_ascii_alphanumeric b ≡ true → (any || not (b == 45)) ≡ true
letter_no_hyphen true b h = refl
letter_no_hyphen false b h = grind (arith, nat_tests)

one_more : (x any : Bool) (b n : ℕ) (bs : List ℕ) → is_host_byte b ≡ true → (any || not (b == 45)) ≡ true → Rest any n bs → Rest x (suc n) (b ∷ bs)
one_more x any b n bs h q r = record {
  k = suc r.k;
  run = ap (λ (t : Bool). cond t (1 + prefix_len is_host_byte bs) 0) h ∙ one-add (prefix_len is_host_byte bs) ∙ ap suc r.run;
  fits = let f = r.fits in omega (arith, f);
  last = λ c p. r.last b q;
  total = counted r.k (beyond (drop r.k bs)) n r.total;
}
  where
    counted : (k m n : ℕ) → k + m ≡ n → suc k + m ≡ suc n
    counted k m n e = omega (arith, e)

-- a host's rest that begins with no byte of a label
over : (b n : ℕ) (bs : List ℕ) → is_host_byte b ≡ false → beyond (b ∷ bs) ≡ n → Rest false n (b ∷ bs)
over b n bs h e = record {
  k = 0;
  run = ap (λ (t : Bool). cond t (1 + prefix_len is_host_byte bs) 0) h;
  fits = omega arith;
  last = λ c p. not-true (c == 45) p;
  total = counted (beyond (b ∷ bs)) n e;
}
  where
    counted : (m n : ℕ) → m ≡ n → 0 + m ≡ n
    counted m n e = omega (arith, e)

-- a label by its first byte
label_is : (any : Bool) (b n : ℕ) (bs : List ℕ) → is_ascii_alphanumeric b ≡ true → (r : Rest any n bs) → label_len (b ∷ bs) ≡ suc r.k
label_is any b n bs h r =
    let run' : prefix_len is_host_byte (b ∷ bs) ≡ suc r.k = ap (λ (t : Bool). cond t (1 + prefix_len is_host_byte bs) 0) (letter_byte b h) ∙ one-add (prefix_len is_host_byte bs) ∙ ap suc r.run in
    let f = r.fits in
    let fits : suc r.k ≤ length (b ∷ bs) = omega (arith, f) in
    let size = length-take-le (suc r.k) (b ∷ bs) fits in
    let some : 0 < suc r.k = omega arith in
    let back : suc r.k - 1 ≡ r.k = omega arith in
    let none = suffix_len-take_no (λ (c : ℕ). c == 45) (b ∷ bs) (suc r.k) 0 some fits (ap (λ i. get_or (b ∷ bs) i 0 == 45) back ∙ r.last b (letter_no_hyphen any b h)) in
    let sum : length (take (suc r.k) (b ∷ bs)) - suffix_len (λ (c : ℕ). c == 45) (take (suc r.k) (b ∷ bs)) ≡ suc r.k = omega (arith, size, none) in
    ap (λ (t : Bool). let run = take (prefix_len is_host_byte (b ∷ bs)) (b ∷ bs) in if t then length run - suffix_len (λ (c : ℕ). c == 45) run else 0) h
    ∙ ap (λ n. let run = take n (b ∷ bs) in length run - suffix_len (λ (c : ℕ). c == 45) run) run'
    ∙ sum

skip_labels : (k : ℕ) (bs : List ℕ) → k ≤ length bs → more_labels k bs ≡ k + more_labels 0 (drop k bs)
skip_labels zero bs h = let m = more_labels 0 bs in let e : m ≡ 0 + m = omega arith in e
skip_labels (suc k) [] h = absurd (omega (arith, h))
skip_labels (suc k) (b ∷ bs) h =
    let h' : k ≤ length bs = omega (arith, h) in
    let m = more_labels 0 (drop k bs) in
    let e : suc (k + m) ≡ suc k + m = omega arith in
    ap suc (skip_labels k bs h') ∙ e

-- `.` and a label
dotted : (any : Bool) (b n : ℕ) (bs : List ℕ) → is_ascii_alphanumeric b ≡ true → Rest any n bs → beyond (46 ∷ b ∷ bs) ≡ suc (suc n)
dotted any b n bs h r =
    let rest = drop r.k bs in
    let m = more_labels 0 rest in
    let labels : more_labels 0 (46 ∷ b ∷ bs) ≡ suc (suc (r.k + m)) =
    ap (λ l. loc.after_dot l (λ n. more_labels n (b ∷ bs))) (label_is any b n bs h r) ∙ ap (λ t. suc (suc t)) (skip_labels r.k bs r.fits) in
    let t = r.total in
    let sum : suc (suc (r.k + m)) + port_len (drop m rest) ≡ suc (suc n) = omega (arith, t) in
    ap (λ l. l + port_len (drop l (46 ∷ b ∷ bs))) labels
    ∙ ap (λ l. suc (suc (r.k + m)) + port_len l) (sym (drop-drop m r.k bs))
    ∙ sum

port_is : (ds t : List ℕ) → list_all is_ascii_digit ds ≡ true → port_len (58 ∷ (ds ++ 47 ∷ t)) ≡ suc (length ds)
port_is ds t h = one-add (prefix_len is_ascii_digit (ds ++ 47 ∷ t)) ∙ ap suc (run_len is_ascii_digit ds (47 ∷ t) h refl refl)

port_beyond : (ds t : List ℕ) → list_all is_ascii_digit ds ≡ true → beyond (58 ∷ (ds ++ 47 ∷ t)) ≡ suc (length ds)
port_beyond ds t h = let n = port_len (58 ∷ (ds ++ 47 ∷ t)) in let e : 0 + n ≡ n = omega arith in e ∙ port_is ds t h

by_equal : (b c : ℕ) (P : ℕ → Type 0) → (b == c) ≡ true → P c → P b
by_equal b c P h p = subst P (sym (eqb-true b c h)) p

pub either : (a b : Bool) (P : Type 0) → (a || b) ≡ true → (a ≡ true → P) → (b ≡ true → P) → P
either true b P h l r = l refl
either false b P h l r = r h

mutual
  letter : (bs t : List ℕ) → after_letter bs ≡ true → Rest false (length bs) (bs ++ 47 ∷ t)
  letter [] t h = over 47 0 t refl refl
  letter (b ∷ bs) t h =
      let P : ℕ → Type 0 = λ b. Rest false (suc (length bs)) (b ∷ (bs ++ 47 ∷ t)) in
      let a1 = is_ascii_alphanumeric b && after_letter bs in
      let a2 = b == 45 && after_hyphen bs in
      let a3 = b == 46 && after_dot bs in
      let a4 = b == 58 && list_all is_ascii_digit bs in
      either (a1 || a2 || a3) a4 (P b) h
      (λ q. either (a1 || a2) a3 (P b) q
      (λ q. either a1 a2 (P b) q
      (λ q. let parts = and_parts (is_ascii_alphanumeric b) (after_letter bs) q in one_more false false b (length bs) (bs ++ 47 ∷ t) (letter_byte b parts.0) (letter_no_hyphen false b parts.0) (letter bs t parts.1))
      (λ q. let parts = and_parts (b == 45) (after_hyphen bs) q in by_equal b 45 P parts.0 (one_more false true 45 (length bs) (bs ++ 47 ∷ t) refl refl (hyphen bs t parts.1))))
      (λ q. let parts = and_parts (b == 46) (after_dot bs) q in by_equal b 46 P parts.0 (over 46 (suc (length bs)) (bs ++ 47 ∷ t) refl (dot bs t parts.1))))
      (λ q. let parts = and_parts (b == 58) (list_all is_ascii_digit bs) q in by_equal b 58 P parts.0 (over 58 (suc (length bs)) (bs ++ 47 ∷ t) refl (port_beyond bs t parts.1)))

  hyphen : (bs t : List ℕ) → after_hyphen bs ≡ true → Rest true (length bs) (bs ++ 47 ∷ t)
  hyphen [] t h = absurd (both_ways false refl h)
  hyphen (b ∷ bs) t h =
      let P = Rest true (suc (length bs)) (b ∷ (bs ++ 47 ∷ t)) in
      let a1 = is_ascii_alphanumeric b && after_letter bs in
      let a2 = b == 45 && after_hyphen bs in
      either a1 a2 P h
      (λ q. let parts = and_parts (is_ascii_alphanumeric b) (after_letter bs) q in one_more true false b (length bs) (bs ++ 47 ∷ t) (letter_byte b parts.0) (letter_no_hyphen false b parts.0) (letter bs t parts.1))
      (λ q. let parts = and_parts (b == 45) (after_hyphen bs) q in by_equal b 45 (λ b. Rest true (suc (length bs)) (b ∷ (bs ++ 47 ∷ t))) parts.0 (one_more true true 45 (length bs) (bs ++ 47 ∷ t) refl refl (hyphen bs t parts.1)))

  dot : (bs t : List ℕ) → after_dot bs ≡ true → beyond (46 ∷ (bs ++ 47 ∷ t)) ≡ suc (length bs)
  dot [] t h = refl
  dot (b ∷ bs) t h =
      let P = beyond (46 ∷ b ∷ (bs ++ 47 ∷ t)) ≡ suc (suc (length bs)) in
      let a1 = is_ascii_alphanumeric b && after_letter bs in
      let a2 = b == 58 && list_all is_ascii_digit bs in
      either a1 a2 P h
      (λ q. let parts = and_parts (is_ascii_alphanumeric b) (after_letter bs) q in dotted false b (length bs) (bs ++ 47 ∷ t) parts.0 (letter bs t parts.1))
      (λ q. let parts = and_parts (b == 58) (list_all is_ascii_digit bs) q in by_equal b 58 (λ b. beyond (46 ∷ b ∷ (bs ++ 47 ∷ t)) ≡ suc (suc (length bs))) parts.0 (one-add (port_len (58 ∷ (bs ++ 47 ∷ t))) ∙ ap suc (port_is bs t parts.1)))

-- a host before a slash
pub host_read : (h t : List ℕ) → is_host h ≡ true → host_len (h ++ 47 ∷ t) ≡ length h
host_read [] t e = absurd (both_ways false refl e)
host_read (b ∷ bs) t e =
    let parts = and_parts (is_ascii_alphanumeric b) (after_letter bs) e in
    let R = bs ++ 47 ∷ t in
    let r = letter bs t parts.1 in
    let rest = drop r.k R in
    let m = more_labels 0 rest in
    let n = suc (r.k + m) in
    let shift : suc r.k + m ≡ n = omega arith in
    let domain : domain_len (b ∷ R) ≡ n =
    ap (λ l. if nat_lt 0 l then l + more_labels 0 (drop l (b ∷ R)) else 0) (label_is false b (length bs) R parts.0 r)
    ∙ ap (λ (q : Bool). if q then suc r.k + m else 0) (lt-ltb 0 (suc r.k) (omega arith)) ∙ shift in
    let total = r.total in
    let sum : n + port_len (drop m rest) ≡ suc (length bs) = omega (arith, total) in
    ap (λ l. if nat_lt 0 l then l + port_len (drop l (b ∷ R)) else 0) domain
    ∙ ap (λ (q : Bool). if q then n + port_len (drop n (b ∷ R)) else 0) (lt-ltb 0 n (omega arith))
    ∙ ap (λ l. n + port_len l) (sym (drop-drop m r.k R))
    ∙ sum

-- ---- a whole URL

query_stops : (o : Option (List ℕ)) (rest : List ℕ) → is_seam 15 rest ≡ true → ends_segment (query_text o ++ rest) ≡ true
query_stops None rest s = let c = first rest in grind (arith, nat_tests)
query_stops (Some q) rest s = refl

query_no_slash : (o : Option (List ℕ)) (rest : List ℕ) → is_seam 15 rest ≡ true → eqb (first (query_text o ++ rest)) 47 ≡ false
query_no_slash None rest s = let c = first rest in grind (arith, nat_tests)
query_no_slash (Some q) rest s = refl

no_query : (rest : List ℕ) → is_seam 15 rest ≡ true → (first rest == 63) ≡ false
no_query rest s = let c = first rest in grind (arith, nat_tests)

query_is : (o : Option (List ℕ)) (rest : List ℕ) → query_spellable o ≡ true → is_seam 15 rest ≡ true → query_of (query_text o ++ rest) ≡ o
query_is None rest h s = ap (λ (t : Bool). if t then Some (take (loc.url_chars_len is_query_byte 0 (drop 1 rest)) (drop 1 rest)) else None) (no_query rest s)
query_is (Some q) rest h s = query_read q rest h s

query_size : (o : Option (List ℕ)) → query_len o ≡ length (query_text o)
query_size None = refl
query_size (Some q) = one-add (length q)

drop_front : (x rest : List ℕ) → drop (length x) (x ++ rest) ≡ rest
drop_front [] rest = refl
drop_front (b ∷ x) rest = drop_front x rest

letter_no_bracket : (b : ℕ) → is_ascii_alphanumeric b ≡ true → (b == 91) ≡ false
letter_no_bracket b h = grind (arith, nat_tests)

not_none : (k : ℕ) → (suc k == 0) ≡ false
not_none k = grind (arith, nat_tests)

-- what stands behind the scheme
pub scheme_read : (kind : Url → Loc) (before : ℕ) (u : Url) (rest : List ℕ) → has_some u.comps ≡ true → url_spellable u ≡ true → is_seam 15 rest ≡ true
    → after_scheme kind before (url_text u ++ rest) ≡ Some (record { found = Is (kinds.Url (kind u)); len = before + length (url_text u) })
scheme_read kind before u rest some h s =
    let parts = and_parts (is_host u.host && list_all is_segment u.comps) (query_spellable u.query) h in
    let parts' = and_parts (is_host u.host) (list_all is_segment u.comps) parts.0 in
    by u.host u.comps some parts'.0 (parts'.1, parts.1)
  where
    by : (host : List ℕ) (cs : List (List ℕ)) → has_some cs ≡ true → is_host host ≡ true → (list_all is_segment cs ≡ true) × (query_spellable u.query ≡ true)
        → after_scheme kind before ((host ++ slashed cs ++ query_text u.query) ++ rest) ≡ Some (record { found = Is (kinds.Url (kind (record { host = host; comps = cs; query = u.query }))); len = before + length (host ++ slashed cs ++ query_text u.query) })
    by host [] some e parts = absurd (both_ways false refl some)
    by [] (c ∷ cs) some e parts = absurd (both_ways false refl e)
    by (b ∷ bs) (c ∷ cs) some e parts =
        let host = b ∷ bs in
        let q = query_text u.query in
        let path = slashed (c ∷ cs) in
        let tail = q ++ rest in
        let n = length host in
        let front : (host ++ path ++ q) ++ rest ≡ host ++ (path ++ tail) = append_assoc (host ++ path) q rest ∙ append_assoc host path tail in
        let all = host ++ (path ++ tail) in
        let long : host_len all ≡ n = host_read host (drop 1 (path ++ tail)) e in
        let back : drop n all ≡ path ++ tail = drop_front host (path ++ tail) in
        let read : components segment 0 (drop n all) ≡ record { texts = c ∷ cs; total = length path } =
        ap (components segment 0) back ∙ segments_read (c ∷ cs) tail parts.0 (query_stops u.query rest s) (query_no_slash u.query rest s) in
        let behind : drop (n + length path) all ≡ tail = sym (drop-drop (length path) n all) ∙ ap (drop (length path)) back ∙ drop_front path tail in
        let found : Option (List ℕ) → Url = λ o. record { host = host; comps = c ∷ cs; query = o } in
        let no_user : (slice_index all n == 64) ≡ false = ap (λ k. k == 64) (slash_at host (drop 1 (path ++ tail))) in
        let size : before + n + length path + query_len u.query ≡ before + length (host ++ path ++ q) =
        let e1 = query_size u.query in let e2 = length-append (host ++ path) q in let e3 = length-append host path in omega (arith, e1, e2, e3) in
        let some' : 0 < before + length (host ++ path ++ q) = omega arith in
        ap (after_scheme kind before) front
        ∙ ap (λ (t : Bool). if t then form LeftOut (1 + before) else if host_len all == 0 then None else if slice_index all (host_len all) == 64 then form LeftOut (1 + before + host_len all) else url_form kind before (host_len all) all) (letter_no_bracket b (and_parts (is_ascii_alphanumeric b) (after_letter bs) e).0)
        ∙ ap (λ n. if n == 0 then None else if slice_index all n == 64 then form LeftOut (1 + before + n) else url_form kind before n all) long
        ∙ ap (λ (t : Bool). if t then None else if slice_index all n == 64 then form LeftOut (1 + before + n) else url_form kind before n all) (not_none (length bs))
        ∙ ap (λ (t : Bool). if t then form LeftOut (1 + before + n) else url_form kind before n all) no_user
        ∙ ap (λ (k : Components). let query = query_of (drop (n + k.total) all) in form (Is (kinds.Url (kind (record { host = take n all; comps = one_or_more k.texts; query = query })))) (before + n + k.total + query_len query)) read
        ∙ ap (λ t. form (Is (kinds.Url (kind (record { host = take n all; comps = c ∷ cs; query = query_of t })))) (before + n + length path + query_len (query_of t))) behind
        ∙ ap (λ o. form (Is (kinds.Url (kind (record { host = take n all; comps = c ∷ cs; query = o })))) (before + n + length path + query_len o)) (query_is u.query rest parts.1 s)
        ∙ ap (λ t. form (Is (kinds.Url (kind (record { host = t; comps = c ∷ cs; query = u.query })))) (before + n + length path + query_len u.query)) (take_front host (path ++ tail))
        ∙ ap (λ l. form (Is (kinds.Url (kind (found u.query)))) l) size
        ∙ form-some (Is (kinds.Url (kind (found u.query)))) (before + length (host ++ path ++ q)) some'
      where
        slash_at : (x t : List ℕ) → slice_index (x ++ 47 ∷ t) (length x) ≡ 47
        slash_at [] t = refl
        slash_at (k ∷ x) t = slash_at x t

pub http_reads : (u : Url) → has_some u.comps ≡ true → url_spellable u ≡ true → LocReads (locs.Http u)
http_reads u some h p g rest n ws c s after =
    let t = url_text u in
    let size : 7 + length t ≡ suc (suc (suc (suc (suc (suc (suc (length t))))))) = omega arith in
    give p g 104 (116 ∷ 116 ∷ 112 ∷ 58 ∷ 47 ∷ 47 ∷ t) rest (kinds.Url (locs.Http u)) n ws c (λ b. tt) refl refl
    (code_form-word (codes "http://" ++ (t ++ rest)) refl
    ∙ word-url (codes "http://" ++ (t ++ rest)) _ (scheme_read locs.Http 7 u rest some h s)
    ∙ ap (λ l. Some (record { found = Is (kinds.Url (locs.Http u)); len = l })) size)
    (λ at. after)

pub https_reads : (u : Url) → has_some u.comps ≡ true → url_spellable u ≡ true → LocReads (locs.Https u)
https_reads u some h p g rest n ws c s after =
    let t = url_text u in
    let size : 8 + length t ≡ suc (suc (suc (suc (suc (suc (suc (suc (length t)))))))) = omega arith in
    give p g 104 (116 ∷ 116 ∷ 112 ∷ 115 ∷ 58 ∷ 47 ∷ 47 ∷ t) rest (kinds.Url (locs.Https u)) n ws c (λ b. tt) refl refl
    (code_form-word (codes "https://" ++ (t ++ rest)) refl
    ∙ word-url (codes "https://" ++ (t ++ rest)) _ (scheme_read locs.Https 8 u rest some h s)
    ∙ ap (λ l. Some (record { found = Is (kinds.Url (locs.Https u)); len = l })) size)
    (λ at. after)
