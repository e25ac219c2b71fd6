-- The orders of places in matrices, whose laws stand with the definitions: a row's key needs them.
pub use Rattle.plant_model.specs.PlaceOrders.{band_total, cell_total, same_bands, same_cells}
