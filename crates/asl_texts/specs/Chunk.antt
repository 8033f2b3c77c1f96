-- What a clause reads of a chunk. No public clause cites this module.
use Rattle.std.specs.Prelude.{ℕ, List, slice_range}
use Rattle.asl_texts.specs.declared.chunks.Chunk.{Chunk}

-- the bytes that aren't taken yet
abbrev pub pending : Chunk → List ℕ
pending c = slice_range c.bytes c.start c.end
