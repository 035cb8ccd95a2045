pub mod FlatCut
