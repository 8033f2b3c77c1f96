use Rattle.asl_texts.proofs.Slices.{range_passed}
use Rattle.asl_texts.proofs.chunks.Chunk.take.Goals as goal

pub returns : goal.returns
returns c = range_passed c.args.self.now.bytes c.args.self.now.start c.args.self.now.end c.args.count c.requires
