-- What clauses see of the image that a disk in memory keeps.
use Rattle.std.specs.Prelude.{◌<◌, vec_len, vec_capacity}
use Rattle.disk_model.specs.Image.{Image}
use Rattle.disk_model.specs.declared.image.CrashImage.{CrashImage}

abbrev pub image_of : CrashImage → Image
image_of kept = record { synced = kept.synced.items; least = kept.least; greatest = kept.greatest; ranges = kept.ranges.items }

-- one more range takes no memory
abbrev pub HasRoom : CrashImage → Type 0
HasRoom kept = vec_len kept.ranges < vec_capacity kept.ranges
