mod Values
mod Items
