pub mod LayerLine
