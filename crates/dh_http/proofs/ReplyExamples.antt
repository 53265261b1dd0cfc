-- What fields say, and short bodies, computed.
use Rattle.std.proofs.Common.{◌≡◌, [], ◌∷◌, codes, refl, Some, None}
use Rattle.dh_http.specs.Fields.{framing, allowed}
use Rattle.dh_http.specs.declared.framings.Framing.TheVariants.{ToEnd, Stated, Chunked, Unclear}

no_field : framing [] ≡ ToEnd
no_field = refl

stated : framing ((codes "content-LENGTH", codes "012") ∷ []) ≡ Stated 12
stated = refl

chunked : framing ((codes "Server", codes "x") ∷ (codes "Transfer-Encoding", codes "Chunked") ∷ []) ≡ Chunked
chunked = refl

both : framing ((codes "Content-Length", codes "1") ∷ (codes "Transfer-Encoding", codes "chunked") ∷ []) ≡ Unclear
both = refl

twice : framing ((codes "Content-Length", codes "1") ∷ (codes "Content-Length", codes "1") ∷ []) ≡ Unclear
twice = refl

signed : framing ((codes "Content-Length", codes "+1") ∷ []) ≡ Unclear
signed = refl

nineteen : framing ((codes "Content-Length", codes "0000000000000000001") ∷ []) ≡ Unclear
nineteen = refl

coded : framing ((codes "Transfer-Encoding", codes "gzip, chunked") ∷ []) ≡ Unclear
coded = refl

star : allowed ((codes "access-control-allow-origin", codes "*") ∷ []) ≡ Some (codes "*")
star = refl

two_stars : allowed ((codes "access-control-allow-origin", codes "*") ∷ (codes "Access-Control-Allow-Origin", codes "*") ∷ []) ≡ None
two_stars = refl
