-- The rows of one circuit's unfinished frame, evaluated.
use mathlib.Core.Path.{refl}
use Rattle.chunks.specs.Chunks.{join, after, after_all}
use Rattle.chunks.specs.SampleChunks.{SampleChunks}

pub sample-chunks : SampleChunks
unfolding join after after_all
sample-chunks = ((refl, refl), (refl, refl, refl, refl), (refl, refl, refl))
