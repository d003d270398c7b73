-- The rows of the lists of a batch, evaluated.
use mathlib.Core.Path.{refl}
use Rattle.batches.specs.Batch.{sum, smaller, checked_by}
use Rattle.batches.specs.SampleBatches.{SampleBatches}

pub sample-batches : SampleBatches
unfolding sum smaller checked_by
sample-batches =
    ((refl, refl, refl, refl, refl, refl, refl, refl, refl), (refl, refl, refl), (refl, refl, refl, refl, refl), (refl, refl, refl), (refl, refl, refl, refl))
