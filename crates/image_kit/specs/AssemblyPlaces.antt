-- The sizes and places of the parts of a file, as the code holds them.
use Rattle.std.specs.Prelude.{◌≡◌}
use Rattle.image_kit.specs.declared.assembly_plan.AssemblyPlan.{AssemblyPlan}
use Rattle.image_kit.specs.declared.places.Places.{Places}
use Rattle.image_kit.specs.AssemblyFile.{bodies_size, tables_size, strings_offset, user_offset, guids_offset, blobs_offset, metadata_size, section_size, raw_size}

pub record ArePlaces (plan : AssemblyPlan) (p : Places) : Type 0 where
  pub bodies : p.bodies ≡ bodies_size plan.bodies
  pub tables : p.tables ≡ tables_size plan
  pub strings : p.strings ≡ strings_offset plan
  pub user : p.user ≡ user_offset plan
  pub guids : p.guids ≡ guids_offset plan
  pub blobs : p.blobs ≡ blobs_offset plan
  pub metadata : p.metadata ≡ metadata_size plan
  pub section : p.section ≡ section_size plan
  pub raw : p.raw ≡ raw_size plan
