use Rattle.dh_http.proofs.Places.{Took_stop, on_err_of}
use Rattle.dh_http.proofs.ContentLaws.{chunked_none, chunked_more, chunked_last, chunked_other}
use Rattle.dh_http.proofs.bodies.take_chunks.Goals as goal

pub chunks-init : goal.chunks-init
chunks-init g c = chunked_none _ _ c.requires.fits c.requires.empty

pub returns-in_err-take_chunk-clause-stopped : goal.returns-in_err-take_chunk-clause-stopped
returns-in_err-take_chunk-clause-stopped g c =
    on_err_of c.from_residual.result (Took_stop _ _ _ _ c.chunks.invariant.went.1 c.in_err-take_chunk.ensures.stopped)

pub chunks-preserved : goal.chunks-preserved
chunks-preserved g c =
    let chunk = rw c.in-More.is at c.in_ok-take_chunk.ensures.taken in
    chunked_more _ _ _ _ _ c.chunks.invariant chunk

pub returns-in-Last-clause-taken : goal.returns-in-Last-clause-taken
returns-in-Last-clause-taken g c =
    let chunk = rw c.in-Last.is at c.in_ok-take_chunk.ensures.taken in
    chunked_last _ _ _ _ _ c.chunks.invariant chunk

pub returns-in-Other-clause-taken : goal.returns-in-Other-clause-taken
returns-in-Other-clause-taken g c =
    let chunk = rw c.in-Other.is at c.in_ok-take_chunk.ensures.taken in
    chunked_other _ _ _ _ c.take_chunk.new.body.items c.chunks.invariant chunk
